-- The members of the structs of a file: fields and methods.
-- For: `names_mean`, src/lib.rt
-- By: induction over the list of declarations; for fields, over the list of members of a struct
use Rattle.std.proofs.Common.{◌≡◌, inl, inr, ℕ, ◌+◌, ◌<◌, List, [], ◌∷◌, ◌++◌, length, flat_map, Option, Some, None}
use Rattle.std.proofs.Common.{refl, sym, ◌∙◌, subst, slice_get, append_assoc}
use Rattle.golf_theory.specs.Membership.{Every}
use Rattle.golf_theory.proofs.Lists.{Every-push}
use Rattle.golf_syntax_trees.specs.declared.declarations.Field.{Field}
use Rattle.golf_syntax_trees.specs.declared.declarations.Receiver.{Receiver}
use Rattle.golf_syntax_trees.specs.declared.declarations.Func.{Func}
use Rattle.golf_syntax_trees.specs.declared.declarations.Decl.{Decl}
use Rattle.golf_syntax_trees.specs.declared.declarations.Decl.TheVariants as d
use Rattle.golf_check_types.specs.declared.scopes.Member.{Member}
use Rattle.golf_check_types.specs.declared.scopes.Member.TheVariants as member_as
use Rattle.golf_check_types.specs.declared.scopes.Members.{Members}
use Rattle.golf_check_types.specs.declared.scopes.Naming.{Naming}
use Rattle.golf_check_types.specs.Files.{field_names, members_of, naming_of, struct_named, receiver_struct, with_method}
use Rattle.golf_check_types.specs.Files.{method_put, method_added, methods_added}
use Rattle.golf_code_shapes.specs.Parts.{structs_of, functions_of}
use Rattle.golf_code_shapes.proofs.Gets.{get-behind, mapped-get, get-set, count-push}
use Rattle.golf_code_shapes.proofs.Meanings.{FieldBelow, same-count, members-below, counted}
use Rattle.std.proofs.lemmas.Grind.{flat_map-append}

-- the method of this number, whose receiver is of the struct of that number
pub record IsMethod (xs : List Decl) (k : Naming) (s q : ℕ) : Type 0 where
  pub method : Func
  pub receiver : Receiver
  pub there : slice_get (flat_map functions_of xs) q ≡ Some method
  pub has : method.receiver ≡ Some receiver
  pub named : struct_named k receiver.type_name ≡ Some s

-- what a member of the struct of this number is
abbrev pub Belongs : List Decl → Naming → ℕ → Member → Type 0
Belongs xs k s (member_as.Field i) = (fields : List Field) × (slice_get (flat_map structs_of xs) s ≡ Some fields)
    × (i < length (flat_map field_names fields))
Belongs xs k s (member_as.Method q) = IsMethod xs k s q

abbrev pub AllBelong : List Decl → Naming → List Members → Type 0
AllBelong xs k structs = (s : ℕ) (m : Members) → slice_get structs s ≡ Some m → Every (Belongs xs k s) m.kinds

module _ (xs : List Decl) (k : Naming) where
  fields-belong : (s : ℕ) (fields : List Field) (ms : List Member) → slice_get (flat_map structs_of xs) s ≡ Some fields
      → Every (FieldBelow (length (flat_map field_names fields))) ms → Every (Belongs xs k s) ms
  fields-belong s fields [] e h = tt
  fields-belong s fields (member_as.Field i ∷ ms) e h = ((fields, e, h.0), fields-belong s fields ms e h.1)
  fields-belong s fields (member_as.Method q ∷ ms) e h = absurd h.0

  method-put : (structs : List Members) (s : ℕ) (o : Option Members) (n : List ℕ) (q : ℕ) → slice_get structs s ≡ o
      → AllBelong xs k structs → IsMethod xs k s q → AllBelong xs k (method_put structs s o n q)
  method-put structs s None n q is h new = h
  method-put structs s (Some x) n q is h new = λ j m e.
      elim (get-set structs s (with_method x n q) j m e) [
        | inl g ↦ subst (λ i. Every (Belongs xs k i) m.kinds) (sym g.0)
            (subst (λ (z : Members). Every (Belongs xs k s) z.kinds) (sym g.1)
            (Every-push (Belongs xs k s) x.kinds (member_as.Method q) (h s x is) new))
        | inr g ↦ h j m g
      ]

  one-method : (structs : List Members) (o : Option ℕ) (n : List ℕ) (q : ℕ) → AllBelong xs k structs
      → ((s : ℕ) → o ≡ Some s → IsMethod xs k s q) → AllBelong xs k (method_added structs o n q)
  one-method structs None n q h new = h
  one-method structs (Some s) n q h new = method-put structs s (slice_get structs s) n q refl h (new s refl)

  is-method : (f : Func) (q : ℕ) (r : Option Receiver) → slice_get (flat_map functions_of xs) q ≡ Some f
      → f.receiver ≡ r → (s : ℕ) → receiver_struct k r ≡ Some s → IsMethod xs k s q
  is-method f q None there is s e = cc
  is-method f q (Some r) there is s e = record { method = f; receiver = r; there = there; has = is; named = e }

  -- after these declarations
  methods-belong : (pre rest : List Decl) (q : ℕ) (structs : List Members) → pre ++ rest ≡ xs
      → q ≡ length (flat_map functions_of pre) → AllBelong xs k structs
      → AllBelong xs k (methods_added k q structs rest)
  methods-belong pre [] q structs all count h = h
  methods-belong pre (d.Const l n c ∷ rest) q structs all count h =
      methods-belong (pre ++ d.Const l n c ∷ []) rest q structs (append_assoc pre (d.Const l n c ∷ []) rest ∙ all)
      (same-count functions_of pre (d.Const l n c) q refl count) h
  methods-belong pre (d.Var v ∷ rest) q structs all count h =
      methods-belong (pre ++ d.Var v ∷ []) rest q structs (append_assoc pre (d.Var v ∷ []) rest ∙ all)
      (same-count functions_of pre (d.Var v) q refl count) h
  methods-belong pre (d.Struct l n fs ∷ rest) q structs all count h =
      methods-belong (pre ++ d.Struct l n fs ∷ []) rest q structs (append_assoc pre (d.Struct l n fs ∷ []) rest ∙ all)
      (same-count functions_of pre (d.Struct l n fs) q refl count) h
  methods-belong pre (d.Func f ∷ rest) q structs all count h =
      let there = subst (λ zs. slice_get (flat_map functions_of zs) q ≡ Some f) all
      (subst (λ fs. slice_get fs q ≡ Some f) (sym (flat_map-append functions_of pre (d.Func f ∷ rest)))
      (get-behind (flat_map functions_of pre) f (flat_map functions_of rest) q count)) in
      methods-belong (pre ++ d.Func f ∷ []) rest (q + 1) (method_added structs (receiver_struct k f.receiver) f.name q)
      (append_assoc pre (d.Func f ∷ []) rest ∙ all) (count-push functions_of pre (d.Func f) q 1 count refl)
      (one-method structs (receiver_struct k f.receiver) f.name q h (is-method f q f.receiver there refl))

-- each member of a struct of a file is a field or a method of it
pub members-belong : (xs : List Decl) → AllBelong xs (naming_of xs)
    (methods_added (naming_of xs) 0 (naming_of xs).structs xs)
members-belong xs = methods-belong xs (naming_of xs) [] xs 0 (naming_of xs).structs refl refl begins
  where
    begins : AllBelong xs (naming_of xs) (naming_of xs).structs
    begins s m e =
        let c = counted xs in
        let g = mapped-get members_of (flat_map structs_of xs) s m
        (subst (λ ms. slice_get ms s ≡ Some m) c.structs e) in
        subst (λ (z : Members). Every (Belongs xs (naming_of xs) s) z.kinds) g.2
        (fields-belong xs (naming_of xs) s g.0 (members_of g.0).kinds g.1 (members-below g.0))
