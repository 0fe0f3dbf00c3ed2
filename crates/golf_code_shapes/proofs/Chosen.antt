-- What holds of each candidate holds of the one that is chosen: names that are declared before a file, and methods.
-- For: `predeclared`, golf_check_types/specs/Scopes.antt; `package_member`, golf_check_types/specs/Expressions.antt
-- By: cases of the tests
use Rattle.std.proofs.Common.{◌≡◌, ℕ, Bool, true, false, cond, List, Option, Some, None, refl, subst}
use Rattle.std.specs.Prelude.{codes}
use Rattle.std.specs.Str.{bytes_eq}
use Rattle.golf_check_types.specs.declared.types.Base.{Base}
use Rattle.golf_check_types.specs.declared.types.Base.TheVariants as base
use Rattle.golf_check_types.specs.declared.operands.BuiltIn.{BuiltIn}
use Rattle.golf_check_types.specs.declared.operands.BuiltIn.TheVariants as built_in
use Rattle.golf_check_types.specs.declared.operands.Package.{Package}
use Rattle.golf_check_types.specs.declared.operands.Package.TheVariants as packages
use Rattle.golf_check_types.specs.declared.operands.Operand.{Operand}
use Rattle.golf_check_types.specs.declared.operands.Operand.TheVariants as operand
use Rattle.golf_check_types.specs.declared.scopes.Imports.{Imports}
use Rattle.golf_check_types.specs.Scopes.{or_else, type_name, value_name, call_name, package_name, predeclared}
use Rattle.golf_check_types.specs.Written.{made_base}
use Rattle.golf_check_types.specs.Expressions.{condition_method, mutex_method, group_method, read_method, write_method}
use Rattle.golf_check_types.specs.Expressions.{package_member, fmt_member, runtime_member, sync_member}
use Rattle.golf_code_of.specs.Calls.{receiver_base}

module _ {X : Type 0} (P : X → Type 0) where
  tried : (test : Bool) (y : X) (rest : Option X) → P y → ((x : X) → rest ≡ Some x → P x)
      → (x : X) → cond test (Some y) rest ≡ Some x → P x
  tried true y rest h k x e = let same : y ≡ x = cc in subst P same h
  tried false y rest h k x e = k x e

  none-left : (x : X) → None ≡ Some x → P x
  none-left x e = cc

-- ---- names that are declared before a file

-- it holds of each of them
pub record OfPredeclared (P : Operand → Type 0) : Type 0 where
  pub a_type : P operand.TypeName
  pub truth : (b : Bool) → P (operand.Truth b)
  pub nil : P operand.Nil
  pub length : P (operand.BuiltIn built_in.Length)
  pub close : P (operand.BuiltIn built_in.Close)
  pub panic : P (operand.BuiltIn built_in.Panic)
  pub of_package : (q : Package) → P (operand.Package q)

pub either : (P : Operand → Type 0) (a b : Option Operand) → ((m : Operand) → a ≡ Some m → P m)
    → ((m : Operand) → b ≡ Some m → P m) → (m : Operand) → or_else a b ≡ Some m → P m
either P None b h k m e = k m e
either P (Some x) b h k m e = h m e

module _ (P : Operand → Type 0) (each : OfPredeclared P) where
  of-type : (n : List ℕ) (m : Operand) → type_name n ≡ Some m → P m
  unfolding type_name
  of-type n = tried P (bytes_eq n (codes "int")) operand.TypeName _ each.a_type
      (tried P (bytes_eq n (codes "bool")) operand.TypeName _ each.a_type
      (tried P (bytes_eq n (codes "string")) operand.TypeName None each.a_type (none-left P)))

  of-value : (n : List ℕ) (m : Operand) → value_name n ≡ Some m → P m
  unfolding value_name
  of-value n = tried P _ (operand.Truth true) _ (each.truth true)
      (tried P _ (operand.Truth false) _ (each.truth false) (tried P _ operand.Nil None each.nil (none-left P)))

  of-call : (n : List ℕ) (m : Operand) → call_name n ≡ Some m → P m
  unfolding call_name
  of-call n = tried P _ (operand.BuiltIn built_in.Length) _ each.length
      (tried P _ (operand.BuiltIn built_in.Close) _ each.close
      (tried P _ (operand.BuiltIn built_in.Panic) _ each.panic
      (tried P _ operand.TypeName _ each.a_type (tried P _ operand.TypeName None each.a_type (none-left P)))))

  of-package : (i : Imports) (n : List ℕ) (m : Operand) → package_name i n ≡ Some m → P m
  unfolding package_name
  of-package i n = tried P _ (operand.Package packages.Fmt) _ (each.of_package packages.Fmt)
      (tried P _ (operand.Package packages.Runtime) _ (each.of_package packages.Runtime)
      (tried P _ (operand.Package packages.Sync) None (each.of_package packages.Sync) (none-left P)))

  pub of-predeclared : (i : Imports) (n : List ℕ) (m : Operand) → predeclared i n ≡ Some m → P m
  of-predeclared i n = either P (type_name n) _ (of-type n)
      (either P (value_name n) _ (of-value n) (either P (call_name n) (package_name i n) (of-call n) (of-package i n)))

-- ---- what `new` and a literal of package sync make

abbrev pub IsMade : Base → Type 0
IsMade base.Mutex = Unit {0}
IsMade base.Group = Unit {0}
IsMade base.ReadWriteMutex = Unit {0}
IsMade _ = ⊥

pub is-made : (n : List ℕ) (c : Base) → made_base n ≡ Some c → IsMade c
unfolding made_base
is-made n = tried IsMade _ base.Mutex _ tt
    (tried IsMade _ base.Group _ tt (tried IsMade _ base.ReadWriteMutex None tt (none-left IsMade)))

-- ---- methods and members of packages

-- its receiver is of this type, if there is one
abbrev Has : Option Base → BuiltIn → Type 0
Has b m = receiver_base m ≡ b

pub of-mutex : (n : List ℕ) (m : BuiltIn) → mutex_method n ≡ Some m → receiver_base m ≡ Some base.Mutex
unfolding mutex_method
of-mutex n =
    let H = Has (Some base.Mutex) in
    tried H _ built_in.Lock _ refl (tried H _ built_in.Unlock None refl (none-left H))

pub of-group : (n : List ℕ) (m : BuiltIn) → group_method n ≡ Some m → receiver_base m ≡ Some base.Group
unfolding group_method
of-group n =
    let H = Has (Some base.Group) in
    tried H _ built_in.Add _ refl
    (tried H _ built_in.Done _ refl (tried H _ built_in.WaitGroup None refl (none-left H)))

pub of-readers : (n : List ℕ) (m : BuiltIn) → read_method n ≡ Some m → receiver_base m ≡ Some base.ReadWriteMutex
unfolding read_method write_method
of-readers n =
    let H = Has (Some base.ReadWriteMutex) in
    tried H _ built_in.ReadLock _ refl
    (tried H _ built_in.ReadUnlock _ refl
    (tried H _ built_in.WriteLock _ refl (tried H _ built_in.WriteUnlock None refl (none-left H))))

pub of-condition : (n : List ℕ) (m : BuiltIn) → condition_method n ≡ Some m → receiver_base m ≡ Some base.Condition
unfolding condition_method
of-condition n =
    let H = Has (Some base.Condition) in
    tried H _ built_in.WaitCondition _ refl
    (tried H _ built_in.Signal _ refl (tried H _ built_in.Broadcast None refl (none-left H)))

pub from-package : (q : Package) (n : List ℕ) (m : BuiltIn) → package_member q n ≡ Some m → receiver_base m ≡ None
unfolding fmt_member runtime_member sync_member
from-package packages.Fmt n = let H = Has None in tried H _ built_in.Print None refl (none-left H)
from-package packages.Runtime n =
    let H = Has None in
    tried H _ built_in.Collect _ refl (tried H _ built_in.SetFinalizer None refl (none-left H))
from-package packages.Sync n = let H = Has None in tried H _ built_in.NewCondition None refl (none-left H)
