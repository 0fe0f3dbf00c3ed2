-- What the names of a file and the members of its structs stand for: parts of its declarations.
-- For: `naming_of`, golf_check_types/specs/Files.antt
-- By: induction over the list of declarations; for members, over the list of names of fields
use Rattle.std.proofs.Common.{◌≡◌, ℕ, ◌+◌, ◌<◌, ◌≤◌, fold, List, [], ◌∷◌, ◌++◌, length, map, flat_map, Option, Some}
use Rattle.std.proofs.Common.{None, refl, sym, ap, ◌∙◌, subst, slice_get, arith, append_assoc, append-nil}
use Rattle.std.proofs.Common.{length-append}
use Rattle.std.proofs.lemmas.Grind.{flat_map-append}
use Rattle.std.proofs.lemmas.List.{length-map, map-append}
use Rattle.golf_theory.specs.Membership.{Every}
use Rattle.golf_theory.proofs.Lists.{Every-push}
use Rattle.golf_syntax_trees.specs.declared.declarations.Const.{Const}
use Rattle.golf_syntax_trees.specs.declared.declarations.Field.{Field}
use Rattle.golf_syntax_trees.specs.declared.declarations.Receiver.{Receiver}
use Rattle.golf_syntax_trees.specs.declared.declarations.Func.{Func}
use Rattle.golf_syntax_trees.specs.declared.declarations.Decl.{Decl}
use Rattle.golf_syntax_trees.specs.declared.declarations.Decl.TheVariants as d
use Rattle.golf_check_types.specs.declared.scopes.Entity.{Entity}
use Rattle.golf_check_types.specs.declared.scopes.Entity.TheVariants as meant
use Rattle.golf_check_types.specs.declared.scopes.Member.{Member}
use Rattle.golf_check_types.specs.declared.scopes.Member.TheVariants as member_as
use Rattle.golf_check_types.specs.declared.scopes.Members.{Members}
use Rattle.golf_check_types.specs.declared.scopes.Naming.{Naming}
use Rattle.golf_check_types.specs.Files.{const_base, field_names, with_field, no_members, members_of, function_added}
use Rattle.golf_check_types.specs.Files.{decl_added, no_names, naming_of}
use Rattle.golf_code_of.specs.Files.{constants_in}
use Rattle.golf_code_shapes.specs.Parts.{contents_of, structs_of, functions_of}
use Rattle.golf_model_typing.proofs.Gets.{slice_get-left}
use Rattle.golf_code_shapes.proofs.Gets.{get-behind, flat-push, count-push}

-- what a name of these declarations stands for
abbrev pub Means : List Decl → Entity → Type 0
Means xs (meant.Constant k b) = (c : Const) × (slice_get (flat_map constants_in xs) k ≡ Some c) × (const_base c ≡ b)
Means xs (meant.Global k) = k < length (flat_map contents_of xs)
Means xs (meant.Struct k) = (fields : List Field) × (slice_get (flat_map structs_of xs) k ≡ Some fields)
Means xs (meant.Function k) = (f : Func) × (slice_get (flat_map functions_of xs) k ≡ Some f) × (f.receiver ≡ None)

get-more : {A : Type 0} (f : Decl → List A) (xs ys : List Decl) (k : ℕ) (a : A) → slice_get (flat_map f xs) k ≡ Some a
    → slice_get (flat_map f (xs ++ ys)) k ≡ Some a
get-more f xs ys k a e = subst (λ zs. slice_get zs k ≡ Some a) (sym (flat_map-append f xs ys))
    (slice_get-left (flat_map f xs) (flat_map f ys) k a e)

get-new : {A : Type 0} (f : Decl → List A) (xs : List Decl) (x : Decl) (k : ℕ) (a : A) → flat_map f (x ∷ []) ≡ a ∷ []
    → k ≡ length (flat_map f xs) → slice_get (flat_map f (xs ++ x ∷ [])) k ≡ Some a
get-new f xs x k a is e = subst (λ zs. slice_get zs k ≡ Some a) (sym (flat-push f xs x (a ∷ []) is))
    (get-behind (flat_map f xs) a [] k e)

means-more : (xs ys : List Decl) (m : Entity) → Means xs m → Means (xs ++ ys) m
means-more xs ys (meant.Constant k b) h = (h.0, get-more constants_in xs ys k h.0 h.1, h.2)
means-more xs ys (meant.Global k) h = let e = ap length (flat_map-append contents_of xs ys)
    ∙ length-append (flat_map contents_of xs) (flat_map contents_of ys) in omega (arith, h, e)
means-more xs ys (meant.Struct k) h = (h.0, get-more structs_of xs ys k h.0 h.1)
means-more xs ys (meant.Function k) h = (h.0, get-more functions_of xs ys k h.0 h.1, h.2)

all-mean-more : (xs ys : List Decl) (ms : List Entity) → Every (Means xs) ms → Every (Means (xs ++ ys)) ms
all-mean-more xs ys [] h = tt
all-mean-more xs ys (m ∷ ms) h = (means-more xs ys m h.0, all-mean-more xs ys ms h.1)

-- what the names after these declarations count, and what they mean
pub record Counted (xs : List Decl) (k : Naming) : Type 0 where
  pub constants : k.constants ≡ length (flat_map constants_in xs)
  pub globals : k.globals ≡ length (flat_map contents_of xs)
  pub functions : k.functions ≡ length (flat_map functions_of xs)
  pub structs : k.structs ≡ map members_of (flat_map structs_of xs)
  pub entities : Every (Means xs) k.entities

pub same-count : {A : Type 0} (f : Decl → List A) (xs : List Decl) (x : Decl) (n : ℕ) → flat_map f (x ∷ []) ≡ []
    → n ≡ length (flat_map f xs) → n ≡ length (flat_map f (xs ++ x ∷ []))
same-count f xs x n none e = e ∙ ap length (sym (append-nil (flat_map f xs)) ∙ sym (flat-push f xs x [] none))

same-structs : (xs : List Decl) (x : Decl) (ms : List Members) → flat_map structs_of (x ∷ []) ≡ []
    → ms ≡ map members_of (flat_map structs_of xs) → ms ≡ map members_of (flat_map structs_of (xs ++ x ∷ []))
same-structs xs x ms none e = e ∙ ap (map members_of)
    (sym (append-nil (flat_map structs_of xs)) ∙ sym (flat-push structs_of xs x [] none))

counted-function : (xs : List Decl) (f : Func) (r : Option Receiver) (k : Naming) → f.receiver ≡ r → Counted xs k
    → Counted (xs ++ d.Func f ∷ []) (function_added k r f.name)
counted-function xs f None k is h = let x = d.Func f in record {
  constants = same-count constants_in xs x k.constants refl h.constants;
  globals = same-count contents_of xs x k.globals refl h.globals;
  functions = count-push functions_of xs x k.functions 1 h.functions refl;
  structs = same-structs xs x k.structs refl h.structs;
  entities = Every-push (Means (xs ++ x ∷ [])) k.entities _ (all-mean-more xs (x ∷ []) k.entities h.entities)
      (f, get-new functions_of xs x k.functions f refl h.functions, is);
}
counted-function xs f (Some r) k is h = let x = d.Func f in record {
  constants = same-count constants_in xs x k.constants refl h.constants;
  globals = same-count contents_of xs x k.globals refl h.globals;
  functions = count-push functions_of xs x k.functions 1 h.functions refl;
  structs = same-structs xs x k.structs refl h.structs;
  entities = all-mean-more xs (x ∷ []) k.entities h.entities;
}

pub counted-decl : (xs : List Decl) (x : Decl) (k : Naming) → Counted xs k → Counted (xs ++ x ∷ []) (decl_added k x)
counted-decl xs (d.Const l n c) k h = let x = d.Const l n c in record {
  constants = count-push constants_in xs x k.constants 1 h.constants refl;
  globals = same-count contents_of xs x k.globals refl h.globals;
  functions = same-count functions_of xs x k.functions refl h.functions;
  structs = same-structs xs x k.structs refl h.structs;
  entities = Every-push (Means (xs ++ x ∷ [])) k.entities _ (all-mean-more xs (x ∷ []) k.entities h.entities)
      (c, get-new constants_in xs x k.constants c refl h.constants, refl);
}
counted-decl xs (d.Var v) k h = let x = d.Var v in let more =
    count-push contents_of xs x k.globals 1 h.globals refl in record {
      constants = same-count constants_in xs x k.constants refl h.constants;
      globals = more;
      functions = same-count functions_of xs x k.functions refl h.functions;
      structs = same-structs xs x k.structs refl h.structs;
      entities = Every-push (Means (xs ++ x ∷ [])) k.entities _ (all-mean-more xs (x ∷ []) k.entities h.entities)
          (omega (arith, more));
    }
counted-decl xs (d.Struct l n fields) k h = let x = d.Struct l n fields in record {
  constants = same-count constants_in xs x k.constants refl h.constants;
  globals = same-count contents_of xs x k.globals refl h.globals;
  functions = same-count functions_of xs x k.functions refl h.functions;
  structs = ap (λ ms. ms ++ members_of fields ∷ []) h.structs
      ∙ sym (map-append members_of (flat_map structs_of xs) (fields ∷ []))
      ∙ ap (map members_of) (sym (flat-push structs_of xs x (fields ∷ []) refl));
  entities = Every-push (Means (xs ++ x ∷ [])) k.entities _ (all-mean-more xs (x ∷ []) k.entities h.entities) (
    fields,
    get-new structs_of xs x (length k.structs) fields refl
        (ap length h.structs ∙ length-map (flat_map structs_of xs) members_of),
  );
}
counted-decl xs (d.Func f) k h = counted-function xs f f.receiver k refl h

pub counted-all : (xs ys : List Decl) (k : Naming) → Counted xs k → Counted (xs ++ ys) (fold decl_added k ys)
counted-all xs [] k h = subst (λ zs. Counted zs k) (sym (append-nil xs)) h
counted-all xs (y ∷ ys) k h = subst (λ zs. Counted zs (fold decl_added k (y ∷ ys))) (append_assoc xs (y ∷ []) ys)
    (counted-all (xs ++ y ∷ []) ys (decl_added k y) (counted-decl xs y k h))

pub counted : (xs : List Decl) → Counted xs (naming_of xs)
counted xs = counted-all [] xs no_names (record {
  constants = refl;
  globals = refl;
  functions = refl;
  structs = refl;
  entities = tt;
})

-- Fields.

abbrev pub FieldBelow : ℕ → Member → Type 0
FieldBelow n (member_as.Field i) = i < n
FieldBelow n (member_as.Method f) = ⊥

fields-below : (n : ℕ) (ns : List (List ℕ)) (m : Members) → length m.kinds + length ns ≤ n
    → Every (FieldBelow n) m.kinds → Every (FieldBelow n) (fold with_field m ns).kinds
fields-below n [] m l h = h
fields-below n (x ∷ ns) m l h =
    let e = length-append m.kinds (member_as.Field (length m.kinds) ∷ []) in
    fields-below n ns (with_field m x) (omega (arith, l, e))
    (Every-push (FieldBelow n) m.kinds (member_as.Field (length m.kinds)) h (omega (arith, l)))

pub members-below : (fields : List Field)
    → Every (FieldBelow (length (flat_map field_names fields))) (members_of fields).kinds
members-below fields = fields-below (length (flat_map field_names fields)) (flat_map field_names fields) no_members
    (omega arith) tt
