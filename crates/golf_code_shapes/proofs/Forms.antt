-- What the initialiser of a global is depends on the globals above it alone.
-- For: `FormsStay` (golf_code_shapes/specs/GlobalLaws.antt) and `forms_stay` (src/lib.rt)
-- By: induction over the tree of an expression, and over the list of names of fields in a literal
use Rattle.std.proofs.Common.{◌≡◌, ℕ, ◌+◌, ◌<◌, Bool, true, false, not, ◌&&◌, cond, List, [], ◌∷◌, ◌++◌, map, flat_map}
use Rattle.std.proofs.Common.{Option, Some, None, refl, sym, ap, ◌∙◌, subst, arith}
use Rattle.std.specs.Prelude.{nat_le, is_some}
use Rattle.std.specs.List.{list_any}
use Rattle.std.specs.Option.{option_map}
use Rattle.std.specs.Str.{bytes_eq}
use Rattle.golf_syntax_trees.specs.declared.types.TypeExpr.{TypeExpr}
use Rattle.golf_syntax_trees.specs.declared.expressions.UnaryOperator.{UnaryOperator}
use Rattle.golf_syntax_trees.specs.declared.expressions.UnaryOperator.TheVariants as unary
use Rattle.golf_syntax_trees.specs.declared.expressions.Expr.{Expr, roll-Expr}
use Rattle.golf_syntax_trees.specs.declared.expressions.Expr.TheOpen as F
use Rattle.golf_syntax_trees.proofs.ExpressionInduction.{KnownExpr, KnownElement, bare_exprs, bare_elements, ExprLayer}
use Rattle.golf_syntax_trees.proofs.ExpressionInduction.{bare_expr, every-expr}
use Rattle.golf_check_types.specs.declared.types.Layer.{Layer}
use Rattle.golf_check_types.specs.declared.types.Layer.TheVariants as layer
use Rattle.golf_check_types.specs.declared.types.Base.{Base}
use Rattle.golf_check_types.specs.declared.types.Base.TheVariants as base
use Rattle.golf_check_types.specs.declared.types.GoType.{GoType}
use Rattle.golf_check_types.specs.declared.operands.Where.TheVariants as place
use Rattle.golf_check_types.specs.declared.operands.BuiltIn.TheVariants as built_in
use Rattle.golf_check_types.specs.declared.operands.Operand.{Operand}
use Rattle.golf_check_types.specs.declared.operands.Operand.TheVariants as operand
use Rattle.golf_check_types.specs.declared.facts.Fact.{Fact}
use Rattle.golf_check_types.specs.declared.facts.Fact.TheVariants as fact
use Rattle.golf_check_types.specs.declared.operands.Given.{Given}
use Rattle.golf_check_types.specs.declared.operands.Given.TheVariants as given_as
use Rattle.golf_check_types.specs.declared.scopes.Entity.{Entity}
use Rattle.golf_check_types.specs.declared.scopes.Entity.TheVariants as meant
use Rattle.golf_check_types.specs.declared.scopes.Member.{Member}
use Rattle.golf_check_types.specs.declared.scopes.Member.TheVariants as members
use Rattle.golf_check_types.specs.declared.scopes.FileScope.{FileScope}
use Rattle.golf_check_types.specs.declared.scopes.Scope.{Scope}
use Rattle.golf_check_types.specs.Faults.{Fault, broken}
use Rattle.golf_check_types.specs.Types.{with_layer, given}
use Rattle.golf_check_types.specs.Names.{is_blank}
use Rattle.golf_check_types.specs.Scopes.{or_else, type_at, entry_operand, meaning_in, predeclared, meaning, member}
use Rattle.golf_check_types.specs.Written.{write, pointer_to}
use Rattle.golf_check_types.specs.Expressions.{Judged, used, named_or_used, given_by, facts_of, value_faults}
use Rattle.golf_check_types.specs.Expressions.{pointer_value, leaf, known_name, named, in_parens, field_of_member}
use Rattle.golf_check_types.specs.Expressions.{field_type, put_faults, all_put_faults, fields_differ, field_place}
use Rattle.golf_check_types.specs.Expressions.{put_facts, struct_literal, slice_literal, made, made_sized, made_struct}
use Rattle.golf_check_types.specs.Expressions.{struct_member, base_member, type_member, value_member, selected_from}
use Rattle.golf_check_types.specs.Expressions.{selector, unary_judged, binary_judged, index_judged}
use Rattle.golf_check_types.specs.Calls.{steady_faults, called_with, call_judged}
use Rattle.golf_check_types.specs.Judgments.{Judge, Put, judge}
use Rattle.golf_check_types.specs.Files.{outside}
use Rattle.golf_code_shapes.specs.FileLaws.{initial_scope}
use Rattle.golf_code_shapes.proofs.Typings.{none-left, none-right, kept}
use Rattle.golf_check_types.proofs.Alike.{pointers-alike, written-same}
use Rattle.golf_code_of.proofs.JudgeEquations.{element_judge, element-judge-is, judge_layer, judge-rolls}
use Rattle.golf_code_shapes.specs.GlobalLaws.{SameBelow, FormsStay}

module _ (f : FileScope) (globals : List (Option GoType)) where
  -- the file with these types of globals
  abbrev other : FileScope
  other = record f { globals = globals }

  -- fields

  fields-of-same : (k : ℕ) (m : Option Member) → field_of_member other k m ≡ field_of_member f k m
  fields-of-same k None = refl
  fields-of-same k (Some (members.Field i)) = refl
  fields-of-same k (Some (members.Method q)) = refl

  field-same : (b : Option Base) (n : List ℕ) → field_type other b n ≡ field_type f b n
  unfolding field_type member
  field-same (Some (base.Pointer k)) n = fields-of-same k (member f k n)
  field-same _ n = refl

  put-same : (l : ℕ) (b : Option Base) (ns : List (List ℕ)) (vs : List Given)
      → all_put_faults l other b ns vs ≡ all_put_faults l f b ns vs
  put-same l b [] vs = refl
  put-same l b (n ∷ ns) [] = refl
  put-same l b (n ∷ ns) (v ∷ vs) = ap (λ t. put_faults l t v ++ all_put_faults l other b ns vs) (field-same b n)
      ∙ ap (λ fs. put_faults l (field_type f b n) v ++ fs) (put-same l b ns vs)

  differ-same : (b : Option Base) (seen ns : List (List ℕ)) → fields_differ other b seen ns ≡ fields_differ f b seen ns
  differ-same b seen [] = refl
  differ-same b seen (n ∷ ns) =
      ap (λ t. (is_some t && not (list_any (bytes_eq n) seen)) && fields_differ other b (seen ++ n ∷ []) ns)
      (field-same b n)
      ∙ ap (λ z. (is_some (field_type f b n) && not (list_any (bytes_eq n) seen)) && z)
      (differ-same b (seen ++ n ∷ []) ns)

  place-same : (b : Option Base) (n : List ℕ) → field_place other b n ≡ field_place f b n
  unfolding member
  place-same b n = refl

  facts-same : (b : Option Base) (ns : List (List ℕ)) (js : List Judged) → put_facts other b ns js ≡ put_facts f b ns js
  facts-same b [] js = refl
  facts-same b (n ∷ ns) [] = refl
  facts-same b (n ∷ ns) (j ∷ js) =
      ap (λ i. fact.Field i ∷ (facts_of j ++ put_facts other b ns js)) (place-same b n)
      ∙ ap (λ fs. fact.Field (field_place f b n) ∷ (facts_of j ++ fs)) (facts-same b ns js)

  literal-same : (l : ℕ) (b : Option Base) (ns : List (List ℕ)) (js : List Judged)
      → struct_literal l other b ns js ≡ struct_literal l f b ns js
  literal-same l b ns js =
      ap (literal-of l b js (put_facts other b ns js) (fields_differ other b [] ns)) (put-same l b ns (map given_by js))
      ∙ ap (λ z. literal-of l b js (put_facts other b ns js) z (all_put_faults l f b ns (map given_by js)))
      (differ-same b [] ns)
      ∙ ap (λ inner. literal-of l b js inner (fields_differ f b [] ns) (all_put_faults l f b ns (map given_by js)))
      (facts-same b ns js)
    where
      literal-of : ℕ → Option Base → List Judged → List Fact → Bool → List Fault → Judged
      literal-of l b js inner z fs = record {
        meaning = pointer_value b;
        faults = flat_map (used l) js
            ++ (fs ++ broken l 20 (is_some b && z));
        inner = inner;
      }

  -- selectors

  member-same : (l k : ℕ) (m : Option Member) → struct_member l other k m ≡ struct_member l f k m
  member-same l k None = refl
  member-same l k (Some (members.Field i)) = refl
  member-same l k (Some (members.Method q)) = refl

  base-same : (l : ℕ) (n : List ℕ) (b : Base) → base_member l other n b ≡ base_member l f n b
  unfolding member
  base-same l n (base.Pointer k) = member-same l k (member f k n)
  base-same l n _ = refl

  type-same : (l : ℕ) (n : List ℕ) (xs : List Layer) (b : Base) → type_member l other n xs b ≡ type_member l f n xs b
  type-same l n [] b = base-same l n b
  type-same l n (x ∷ xs) b = refl

  value-same : (l : ℕ) (n : List ℕ) (v : Given) → value_member l other n v ≡ value_member l f n v
  value-same l n (given_as.Typed t) = type-same l n t.layers t.base
  value-same l n given_as.Nil = refl
  value-same l n given_as.Unknown = refl

  abbrev of-value : ℕ → Operand → Judged → Judged
  of-value l m j = record { meaning = j.meaning; faults = value_faults l m ++ j.faults; inner = [] }

  selected-same : (l : ℕ) (n : List ℕ) (m : Operand) → selected_from l other n m ≡ selected_from l f n m
  selected-same l n (operand.Package p) = refl
  selected-same l n m = ap (of-value l m) (value-same l n (given m))

  abbrev behind-dot : Judged → Judged → Judged
  behind-dot e j = record { meaning = j.meaning; faults = e.faults ++ j.faults; inner = facts_of e }

module _ (f : FileScope) (globals : List (Option GoType)) (g : ℕ) (same : SameBelow g globals f.globals) where
  -- if the global of this number is initialised
  abbrev here : Scope
  here = initial_scope f g

  abbrev there : Scope
  there = outside (record f { globals = globals })

  -- names

  found-same : (l : ℕ) (o : Option Operand) → (known_name l (Some g) o).faults ≡ []
      → known_name l None o ≡ known_name l (Some g) o
  found-same l None none = refl
  found-same l (Some m) none = ap (leaf m) (sym none)

  known-same : (l : ℕ) (o : Option Entity) (rest : Option Operand)
      → (known_name l (Some g) (or_else (option_map (entry_operand f) o) rest)).faults ≡ []
      → known_name l None (or_else (option_map (entry_operand (record f { globals = globals })) o) rest) ≡ known_name l
      (Some g) (or_else (option_map (entry_operand f) o) rest)
  known-same l None rest none = found-same l rest none
  known-same l (Some (meant.Constant k b)) rest none = found-same l (Some (operand.Constant k b)) none
  known-same l (Some (meant.Struct k)) rest none = found-same l (Some (operand.Struct k)) none
  known-same l (Some (meant.Function k)) rest none = found-same l (Some (operand.Function k)) none
  known-same l (Some (meant.Global k)) rest none =
      let fits = kept l 7 (nat_le (k + 1) g) none in
      let less : k < g = grind (arith, fits) in
      ap (λ t. leaf (operand.Variable (place.Global k) t) []) (same k less)
      ∙ ap (leaf (operand.Variable (place.Global k) (type_at f.globals k))) (sym none)

  unless-blank : (b : Bool) (x y : Judged) → (cond b (leaf operand.Blank []) y).faults ≡ [] → (y.faults ≡ [] → x ≡ y)
      → cond b (leaf operand.Blank []) x ≡ cond b (leaf operand.Blank []) y
  unless-blank true x y none h = refl
  unless-blank false x y none h = h none

  name-same : (l : ℕ) (n : List ℕ) → (named l here n).faults ≡ [] → named l there n ≡ named l here n
  unfolding meaning
  name-same l n none = unless-blank (is_blank n) _ _ none (known-same l (meaning_in f n) (predeclared f.imports n))

  pointer-same : (n : List ℕ) → pointer_to (meaning there n) ≡ pointer_to (meaning here n)
  pointer-same n = pointers-alike f f.fields globals f.functions None n
      ∙ sym (pointers-alike f f.fields f.globals f.functions (Some g) n)

  write-same : (x : TypeExpr) (l : ℕ) → write x l there ≡ write x l here
  write-same x l = written-same there here pointer-same refl x l

  -- calls and operators

  called-same : (l : ℕ) (m : Operand) (xs : List Judged) → (called_with l here m xs).faults ≡ []
      → called_with l there m xs ≡ called_with l here m xs
  called-same l (operand.BuiltIn built_in.Length) xs none = refl
  called-same l (operand.BuiltIn built_in.NewCondition) xs none = refl
  called-same l (operand.BuiltIn built_in.SetFinalizer) [] none = let h =
      kept l 7 false (none-left (broken l 7 false) _ none) in cc
  called-same l (operand.BuiltIn built_in.SetFinalizer) (x ∷ []) none = let h =
      kept l 7 false (none-left (broken l 7 false) _ (none-right (flat_map (used l) (x ∷ [])) _ none)) in cc
  called-same l (operand.BuiltIn built_in.SetFinalizer) (x ∷ (y ∷ ys)) none = let h =
      kept l 7 false (none-left (broken l 7 false) _
      (none-right (flat_map (used l) ys) _ (none-right (named_or_used l y) _ (none-right (used l x) _ none)))) in cc
  called-same l m xs none = let h = kept l 7 false
      (none-left (steady_faults l (Some g) m) _ (none-right (flat_map (used l) xs) _ none)) in cc

  -- the arguments stand as values
  arguments-clean : (l : ℕ) (m : Operand) (xs : List Judged) → (called_with l here m xs).faults ≡ []
      → flat_map (used l) xs ≡ []
  arguments-clean l (operand.BuiltIn built_in.SetFinalizer) [] none = refl
  arguments-clean l (operand.BuiltIn built_in.SetFinalizer) (x ∷ []) none =
      none-left (flat_map (used l) (x ∷ [])) _ none
  arguments-clean l (operand.BuiltIn built_in.SetFinalizer) (x ∷ (y ∷ ys)) none = let h =
      kept l 7 false (none-left (broken l 7 false) _
      (none-right (flat_map (used l) ys) _ (none-right (named_or_used l y) _ (none-right (used l x) _ none)))) in cc
  arguments-clean l m xs none = none-left (flat_map (used l) xs) _ none

  abbrev call-of : ℕ → Judged → Judged → Judged
  call-of l f j = record { meaning = j.meaning; faults = named_or_used l f ++ j.faults; inner = facts_of f ++ j.inner }

  call-same : (l : ℕ) (j : Judged) (xs : List Judged) → (call_judged l here j xs).faults ≡ []
      → call_judged l there j xs ≡ call_judged l here j xs
  call-same l j xs none = ap (call-of l j) (called-same l j.meaning xs (none-right (named_or_used l j) _ none))

  unary-same : (l : ℕ) (o : UnaryOperator) (j : Judged) → (unary_judged l here o j).faults ≡ []
      → unary_judged l there o j ≡ unary_judged l here o j
  unary-same l unary.Negate j none = refl
  unary-same l unary.Not j none = refl
  unary-same l unary.Receive j none = let h =
      kept l 7 false (none-left (broken l 7 false) _ (none-right (used l j) _ none)) in cc

  -- expressions

  abbrev P : Expr → Type 0
  P e = (l : ℕ) → (judge e l here).faults ≡ [] → judge e l there ≡ judge e l here

  abbrev judged : ExprLayer P → Judge
  judged y = judge_layer (bare_expr P y)

  abbrev all-at : ℕ → Scope → List (KnownExpr P) → List Judged
  all-at l s xs = map (λ (j : Judge). j l s) (map judge (bare_exprs P xs))

  abbrev puts-at : ℕ → Scope → List (KnownElement P) → List Judged
  puts-at l s xs = map (λ (p : Put). p.judge l s) (map element_judge (bare_elements P xs))

  used-same : (l : ℕ) (e : KnownExpr P) → used l (judge e.0 l here) ≡ [] → judge e.0 l there ≡ judge e.0 l here
  used-same l e none = e.1 l (none-left (judge e.0 l here).faults _ none)

  all-same : (l : ℕ) (xs : List (KnownExpr P)) → flat_map (used l) (all-at l here xs) ≡ []
      → all-at l there xs ≡ all-at l here xs
  all-same l [] none = refl
  all-same l (x ∷ xs) none = ap (λ j. j ∷ all-at l there xs)
      (used-same l x (none-left (used l (judge x.0 l here)) _ none))
      ∙ ap (λ js. judge x.0 l here ∷ js) (all-same l xs (none-right (used l (judge x.0 l here)) _ none))

  value-stays : (x : KnownElement P) (l : ℕ) → ((element_judge x.0).judge l here).faults ≡ []
      → (element_judge x.0).judge l there ≡ (element_judge x.0).judge l here
  value-stays x l = subst (λ (p : Put). (p.judge l here).faults ≡ [] → p.judge l there ≡ p.judge l here)
      (sym (element-judge-is x.0)) (x.1 l)

  puts-same : (l : ℕ) (xs : List (KnownElement P)) → flat_map (used l) (puts-at l here xs) ≡ []
      → puts-at l there xs ≡ puts-at l here xs
  puts-same l [] none = refl
  puts-same l (x ∷ xs) none =
      let j = (element_judge x.0).judge l here in
      ap (λ j. j ∷ puts-at l there xs) (value-stays x l (none-left j.faults _ (none-left (used l j) _ none)))
      ∙ ap (λ js. j ∷ js) (puts-same l xs (none-right (used l j) _ none))

  at : (y : ExprLayer P) (l : ℕ) → (judged y l here).faults ≡ [] → judged y l there ≡ judged y l here
  at (F.Name x) l none = name-same l x none
  at (F.Parens e) l none = ap in_parens (e.1 l none)
  at (F.StructLiteral x xs) l none =
      let ns = map (λ (p : Put). p.name) (map element_judge (bare_elements P xs)) in
      ap (λ b. struct_literal l there.file b ns (puts-at l there xs)) (pointer-same x)
      ∙ ap (struct_literal l there.file (pointer_to (meaning here x)) ns)
      (puts-same l xs (none-left (flat_map (used l) (puts-at l here xs)) _ none))
      ∙ literal-same f globals l (pointer_to (meaning here x)) ns (puts-at l here xs)
  at (F.SliceLiteral t xs) l none =
      let w = write t l here in
      ap (λ w. slice_literal l w (with_layer layer.Slice w.type) (all-at l there xs)) (write-same t l)
      ∙ ap (slice_literal l w (with_layer layer.Slice w.type))
      (all-same l xs (none-left (flat_map (used l) (all-at l here xs)) _ (none-right w.faults _ none)))
  at (F.Make t) l none = ap (made l) (write-same t l)
  at (F.MakeSized t e) l none =
      ap (λ w. made_sized l w (judge e.0 l there)) (write-same t l)
      ∙ ap (made_sized l (write t l here)) (used-same l e
      (none-left (used l (judge e.0 l here)) _ (none-right (write t l here).faults _ none)))
  at (F.New x) l none = ap (made_struct l) (pointer-same x)
  at (F.Selector e x) l none =
      let j = judge e.0 l here in
      ap (selector l there x) (e.1 l (none-left j.faults _ none))
      ∙ ap (behind-dot f globals j) (selected-same f globals l x j.meaning)
  at (F.Index a i) l none =
      ap (λ j. index_judged l j (judge i.0 l there)) (used-same l a (none-left (used l (judge a.0 l here)) _ none))
      ∙ ap (index_judged l (judge a.0 l here))
      (used-same l i (none-left (used l (judge i.0 l here)) _ (none-right (used l (judge a.0 l here)) _ none)))
  at (F.Call h xs) l none =
      let j = judge h.0 l here in
      let js = all-at l here xs in
      ap (λ k. call_judged l there k (all-at l there xs))
      (h.1 l (none-left j.faults _ (none-left (named_or_used l j) _ none)))
      ∙ ap (call_judged l there j) (all-same l xs
      (arguments-clean l j.meaning js (none-right (named_or_used l j) _ none)))
      ∙ call-same l j js none
  at (F.Unary u e) l none = ap (unary_judged l there u) (used-same l e (none-left (used l (judge e.0 l here)) _ none))
      ∙ unary-same l u (judge e.0 l here) none
  at (F.Binary u x y) l none =
      ap (λ j. binary_judged l u j (judge y.0 l there)) (used-same l x (none-left (used l (judge x.0 l here)) _ none))
      ∙ ap (binary_judged l u (judge x.0 l here))
      (used-same l y (none-left (used l (judge y.0 l here)) _ (none-right (used l (judge x.0 l here)) _ none)))
  at _ l none = refl

  rolled : (y : ExprLayer P) → P (roll-Expr (bare_expr P y))
  rolled y l = subst (λ (j : Judge). (j l here).faults ≡ [] → j l there ≡ j l here) (sym (judge-rolls (bare_expr P y)))
      (at y l)

  pub form-stays : (e : Expr) → P e
  form-stays = every-expr P rolled

pub forms-stay : FormsStay
forms-stay f globals g same e l none = form-stays f globals g same e l none
