-- What a selector gives is what it is.
-- For: `selected_from`, golf_check_types/specs/Expressions.antt; `expressions_fit`, src/lib.rt
-- By: cases of what is selected from, and of the member; no induction
use Rattle.std.proofs.Common.{◌≡◌, ℕ, Bool, true, false, cond, List, [], ◌∷◌, Option, Some, None, refl, sym, subst}
use Rattle.golf_data.specs.declared.code.Instr.{Instr}
use Rattle.golf_check_types.specs.declared.types.Layer.{Layer}
use Rattle.golf_check_types.specs.declared.types.Base.{Base}
use Rattle.golf_check_types.specs.declared.types.Base.TheVariants as base
use Rattle.golf_check_types.specs.declared.types.GoType.{GoType}
use Rattle.golf_check_types.specs.declared.operands.BuiltIn.{BuiltIn}
use Rattle.golf_check_types.specs.declared.operands.Operand.{Operand}
use Rattle.golf_check_types.specs.declared.operands.Operand.TheVariants as operand
use Rattle.golf_check_types.specs.declared.operands.Given.{Given}
use Rattle.golf_check_types.specs.declared.operands.Given.TheVariants as given_as
use Rattle.golf_check_types.specs.declared.scopes.Member.{Member}
use Rattle.golf_check_types.specs.declared.scopes.Member.TheVariants as members
use Rattle.golf_check_types.specs.declared.scopes.Scope.{Scope}
use Rattle.golf_check_types.specs.Types.{plain, given}
use Rattle.golf_check_types.specs.Scopes.{member}
use Rattle.golf_check_types.specs.Expressions.{Judged, value_faults, value_member, type_member, base_member}
use Rattle.golf_check_types.specs.Expressions.{struct_member, called_name, condition_member, condition_method}
use Rattle.golf_check_types.specs.Expressions.{mutex_method, group_method, read_method, package_member}
use Rattle.golf_check_types.specs.Expressions.{has_type, selected_from, leaf}
use Rattle.golf_check_types.specs.Expressions.{value}
use Rattle.golf_model_typing.specs.Types.{ValueType, Types}
use Rattle.golf_code_of.specs.declared.tables.Tables.{Tables}
use Rattle.golf_code_of.specs.Calls.{receiver_base}
use Rattle.golf_code_shapes.specs.Types.{value_type}
use Rattle.golf_code_shapes.specs.Sound.{MemberFits}
use Rattle.golf_code_shapes.proofs.Typings.{none-left, none-right}
use Rattle.golf_code_shapes.proofs.Chosen.{of-mutex, of-group, of-readers, of-condition, from-package}
use Rattle.golf_meaning_source.specs.Names.{Env}
use Rattle.golf_meaning_source.specs.Operations.{Taking, Gives, visible}
use Rattle.golf_meaning_source.specs.Exprs.{Location, selector}
use Rattle.golf_meaning_runs.specs.Sound.{One, YieldsBy, NamesHaveValues, FileTaken}
use Rattle.golf_meaning_runs.specs.Meets.{Many, GivesReceiver}
use Rattle.golf_meaning_runs.proofs.Counts.{many-one, many-then, one-left, placed-field, yields-place}
use Rattle.golf_meaning_runs.proofs.Naming.{Me, valued}

module _ (taking : Taking) where
  module _ (types : Types) (t : Tables) (s : Scope) (env : Env) (fit : NamesHaveValues taking s.locals env)
      (file : FileTaken taking types t s.file) where
    -- the selector that is this, of what gives so
    abbrev Selects : Operand → (Env → Gives) → Type 0
    Selects m f = Me taking types t s env m ((selector taking m f).value env) ((selector taking m f).place env)
        ((selector taking m f).parts env)

    field-selects : (i : ℕ) (e : GoType) (f : Env → Gives) → Many taking 1 (f env)
        → Selects (operand.Field i (Some e)) f
    field-selects i e f h = let p = placed-field taking s.locals env fit i e
        (f env) h in (yields-place taking s.locals env fit (value_type e) (Location.Field i (Some e)) (f env) p, p)

    -- a member of a struct
    of-struct : (l k : ℕ) (f : Env → Gives) (o : Option Member)
        → ((m : Member) → o ≡ Some m → MemberFits types t s.file k m) → (struct_member l s.file k o).faults ≡ []
        → Many taking 1 (f env) → Selects (struct_member l s.file k o).meaning f
    of-struct l k f None fits none h = cc
    of-struct l k f (Some (members.Field i)) fits none h = let m =
        fits (members.Field i) refl in subst (λ o. Selects (operand.Field i o) f) (sym m.3) (field-selects i m.1 f h)
    of-struct l k f (Some (members.Method q)) fits none h = (k, h, fits (members.Method q) refl)

    -- a method of package sync, whose receiver stands
    named-method : (l : ℕ) (f : Env → Gives) (b : Base) (o : Option BuiltIn)
        → ((m : BuiltIn) → o ≡ Some m → receiver_base m ≡ Some b) → (called_name l o).faults ≡ []
        → Many taking 1 (f env) → Selects (called_name l o).meaning f
    named-method l f b None fits none h = cc
    named-method l f b (Some m) fits none h = subst (λ o. GivesReceiver taking o (f env)) (sym (fits m refl)) h

    -- a method of a condition, or its mutex
    condition-name : (l : ℕ) (f : Env → Gives) (test : Bool) (j : Judged) → (j.faults ≡ [] → Selects j.meaning f)
        → (cond test (leaf (value base.Mutex) []) j).faults ≡ [] → Many taking 1 (f env)
        → Selects (cond test (leaf (value base.Mutex) []) j).meaning f
    condition-name l f true j k none h = many-then taking 1 (f env)
        (visible taking Instr.CondMutex (Some (plain base.Mutex) ∷ [])) (One taking ValueType.Mutex) h
        (λ vs len. one-left taking Instr.CondMutex (plain base.Mutex) vs len (λ k. refl))
    condition-name l f false j k none h = k none

    of-condition-name : (l : ℕ) (n : List ℕ) (f : Env → Gives) → (condition_member l n).faults ≡ []
        → Many taking 1 (f env) → Selects (condition_member l n).meaning f
    unfolding condition_member
    of-condition-name l n f none h = condition-name l f _ (called_name l (condition_method n))
        (λ e. named-method l f base.Condition (condition_method n) (of-condition n) e h) none h

    of-base : (l : ℕ) (n : List ℕ) (b : Base) (f : Env → Gives) → (base_member l s.file n b).faults ≡ []
        → Many taking 1 (f env) → Selects (base_member l s.file n b).meaning f
    of-base l n (base.Pointer k) f none h =
        of-struct l k f (member s.file k n) (λ m e. file.fits.members k n m e) none h
    of-base l n base.Mutex f none h = named-method l f base.Mutex (mutex_method n) (of-mutex n) none h
    of-base l n base.Group f none h = named-method l f base.Group (group_method n) (of-group n) none h
    of-base l n base.ReadWriteMutex f none h =
        named-method l f base.ReadWriteMutex (read_method n) (of-readers n) none h
    of-base l n base.Condition f none h = of-condition-name l n f none h
    of-base l n _ f none h = cc

    of-type : (l : ℕ) (n : List ℕ) (xs : List Layer) (b : Base) (f : Env → Gives)
        → (type_member l s.file n xs b).faults ≡ [] → Many taking 1 (f env)
        → Selects (type_member l s.file n xs b).meaning f
    of-type l n [] b f none h = of-base l n b f none h
    of-type l n (x ∷ xs) b f none h = cc

    -- a member of a package

    of-package : (l : ℕ) (f : Env → Gives) (o : Option BuiltIn) → ((m : BuiltIn) → o ≡ Some m → receiver_base m ≡ None)
        → (called_name l o).faults ≡ [] → Many taking 0 (f env) → Selects (called_name l o).meaning f
    of-package l f None fits none h = cc
    of-package l f (Some m) fits none h = subst (λ o. GivesReceiver taking o (f env)) (sym (fits m refl)) h

    -- a type of a package, or what is called
    package-name : (l : ℕ) (f : Env → Gives) (test : Bool) (j : Judged) → (j.faults ≡ [] → Selects j.meaning f)
        → (cond test (leaf operand.TypeName []) j).faults ≡ []
        → Selects (cond test (leaf operand.TypeName []) j).meaning f
    package-name l f true j k none = tt
    package-name l f false j k none = k none

    of-given : (l : ℕ) (n : List ℕ) (g : Given) (f : Env → Gives) → (value_member l s.file n g).faults ≡ []
        → YieldsBy taking g (f env) → Selects (value_member l s.file n g).meaning f
    of-given l n (given_as.Typed e) f none h =
        of-type l n e.layers e.base f none (many-one taking (value_type e) (f env) h)
    of-given l n given_as.Nil f none h = cc
    of-given l n given_as.Unknown f none h = absurd h

    module _ (l : ℕ) (n : List ℕ) (f : Env → Gives) (p : Location) (q : Gives) where
      of-value : (m : Operand) → (value_faults l m ≡ [] → Me taking types t s env m (f env) p q
          → YieldsBy taking (given m) (f env)) → value_faults l m ≡ [] → (value_member l s.file n (given m)).faults ≡ []
          → Me taking types t s env m (f env) p q → Selects (value_member l s.file n (given m)).meaning f
      of-value m k none rest h = of-given l n (given m) f rest (k none h)

      -- `e.n`, if this is what e is
      pub on-selector : (m : Operand) → (selected_from l s.file n m).faults ≡ [] → Me taking types t s env m (f env) p q
          → Selects (selected_from l s.file n m).meaning f
      on-selector (operand.Package k) none h =
          package-name l f (has_type k n) (called_name l (package_member k n))
          (λ e. of-package l f (package_member k n) (from-package k n) e h) none
      on-selector operand.Unknown none h = absurd h
      on-selector m none h = of-value m (valued taking types t s env l m (f env) p q)
          (none-left (value_faults l m) _ none) (none-right (value_faults l m) _ none) h
