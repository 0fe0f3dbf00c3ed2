-- How many values are given, and places of each kind.
-- For: `Many` and `Placed`, specs/Meets.antt
-- By: induction over the list of what is given, and over the list of locals
use Rattle.std.proofs.Common.{◌≡◌, ℕ, ◌+◌, Bool, true, false, cond, List, [], ◌∷◌, ◌++◌, length, length-append, Option}
use Rattle.std.proofs.Common.{Some, None, refl, sym, subst, arith}
use Rattle.std.proofs.lemmas.Bool.{eq-eqb}
use Rattle.std.specs.Prelude.{is_some}
use Rattle.std.specs.Str.{bytes_eq}
use Rattle.golf_data.specs.declared.value.Value.{Value}
use Rattle.golf_data.specs.declared.code.Instr.{Instr}
use Rattle.golf_check_types.specs.declared.types.GoType.{GoType}
use Rattle.golf_check_types.specs.declared.locals.Local.{Local}
use Rattle.golf_data.specs.Effects.{taken}
use Rattle.golf_meaning_flat.specs.Worlds.{World, Part, bind}
use Rattle.golf_meaning_source.specs.Names.{Env, find, first_some, here, assign}
use Rattle.golf_meaning_source.specs.Operations.{Taking, Gives, gives, both, then_do, in_order, visible}
use Rattle.golf_meaning_source.specs.Exprs.{Location, found, if_none, assigned, read, store}
use Rattle.golf_meaning_source.proofs.Environments.{last}
use Rattle.golf_model_typing.specs.Types.{ValueType}
use Rattle.golf_code_shapes.specs.Types.{value_type}
use Rattle.golf_meaning_runs.specs.Sound.{SoundPart, One, Yields, Held, NamesHaveValues, IsOf, AllFit}
use Rattle.golf_meaning_runs.specs.Meets.{Many, Placed}
use Rattle.golf_meaning_runs.proofs.Calculus.{sound-bind, sound-as, Leaves, sound-visible, yields-visible}
use Rattle.golf_meaning_runs.proofs.NameValues.{Paired, paired}

pub at-none : (P : List Value → Type 0) → P [] → (vs : List Value) → length vs ≡ 0 → P vs
at-none P h [] e = h
at-none P h (x ∷ vs) e = absurd (omega (arith, e))

module _ (taking : Taking) where
  -- counts

  pub many-one : (u : ValueType) (f : Gives) → Yields taking u f → Many taking 1 f
  many-one u f h w = sound-as taking (f w) (One taking u) (λ vs. length vs ≡ 1) (h w) one
    where
      one : (vs : List Value) → One taking u vs → length vs ≡ 1
      one [] q = absurd q
      one (v ∷ []) q = refl
      one (v ∷ (x ∷ vs)) q = absurd q

  pub many-both : (m n : ℕ) (f g : Gives) → Many taking m f → Many taking n g → Many taking (m + n) (both f g)
  many-both m n f g hf hg w = sound-bind taking (f w) (λ xs u. bind (g u) (λ ys v. Part.Gives (xs ++ ys) v))
      (λ xs. length xs ≡ m) (λ vs. length vs ≡ m + n) (hf w)
      (λ xs u e. sound-bind taking (g u) (λ ys v. Part.Gives (xs ++ ys) v) (λ ys. length ys ≡ n)
      (λ vs. length vs ≡ m + n) (hg u) (λ ys v d. omega (arith, length-append xs ys, e, d)))

  pub many-then : (n : ℕ) (f : Gives) (g : List Value → Gives) (L : List Value → Type 0) → Many taking n f
      → ((vs : List Value) → length vs ≡ n → (w : World) → SoundPart taking L (g vs w)) → (w : World)
      → SoundPart taking L (then_do f g w)
  many-then n f g L h k w = sound-bind taking (f w) g (λ vs. length vs ≡ n) L (h w) (λ vs u e. k vs e u)

  abbrev pub EachOne : List Gives → Type 0
  EachOne [] = Unit {0}
  EachOne (f ∷ fs) = Many taking 1 f × EachOne fs

  pub many-order : (fs : List Gives) → EachOne fs → Many taking (length fs) (in_order fs)
  many-order [] h w = refl
  many-order (f ∷ fs) h w = sound-as taking (both f (in_order fs) w) (λ vs. length vs ≡ 1 + length fs)
      (λ vs. length vs ≡ length (f ∷ fs)) (many-both 1 (length fs) f (in_order fs) h.0 (many-order fs h.1) w)
      (λ vs e. omega (arith, e))

  -- operations with as many operands as they take

  pub one-left : (i : Instr) (e : GoType) (vs : List Value) → length vs ≡ taken i → Leaves taking i 1
      → Yields taking (value_type e) (visible taking i (Some e ∷ []) vs)
  one-left i e vs h many = yields-visible taking i e vs (eq-eqb (length vs) (taken i) h) many

  pub none-left-over : (i : Instr) (vs : List Value) → length vs ≡ taken i → Leaves taking i 0
      → Many taking 0 (visible taking i [] vs)
  none-left-over i vs h many w = sound-as taking (visible taking i [] vs w) (AllFit taking []) (λ us. length us ≡ 0)
      (sound-visible taking i [] vs w (eq-eqb (length vs) (taken i) h) many) (λ us fit. fit.0)

  -- an operation that stores
  pub stored : {A : Type 0} (K : A → Type 0) (a : A) (i : Instr) (vs : List Value) (w : World) → length vs ≡ taken i
      → Leaves taking i 0 → K a → SoundPart taking K
      (bind (visible taking i [] vs w) (λ us u. if_none us u (Part.Gives a u)))
  stored K a i vs w h many k = sound-bind taking (visible taking i [] vs w) (λ us u. if_none us u (Part.Gives a u))
      (λ us. length us ≡ 0) K (none-left-over i vs h many w) by
    where
      by : (us : List Value) (u : World) → length us ≡ 0 → SoundPart taking K (if_none us u (Part.Gives a u))
      by [] u e = k
      by (x ∷ us) u e = absurd (omega (arith, e))

  -- names

  pub held-known : (o : Option GoType) (v : Value) → Held taking o v → (e : GoType) × (o ≡ Some e)
      × (IsOf taking (value_type e) v)
  held-known None v h = absurd h
  held-known (Some e) v h = (e, refl, h)

  -- a local takes a value of its type
  abbrev pub Takes : Option Local → Value → Type 0
  Takes None v = Unit {0}
  Takes (Some d) v = Held taking d.of_type v

  -- after a value of its type was assigned to the last local of a name, all have values of their types
  pub kept-names : (ds : List Local) (env : Env) (n : List ℕ) (v : Value) → NamesHaveValues taking ds env
      → Takes (last ds n) v
      → NamesHaveValues taking ds (assign env n v)
  kept-names [] [] n v h k = tt
  kept-names [] (x ∷ xs) n v h k = absurd h
  kept-names (d ∷ ds) [] n v h k = absurd h
  kept-names (d ∷ ds) (x ∷ xs) n v h k =
      kept-step (last ds n) (find xs n) (bytes_eq n x.name) (paired taking ds xs n h.2)
      (subst (λ m. Takes (first_some (last ds n) (here (bytes_eq n m) d)) v) (sym h.0) k)
      (λ q. kept-names ds xs n v h.2 q)
    where
      kept-step : (a : Option Local) (o : Option Value) (same : Bool) → Paired taking a o
          → Takes (first_some a (here same d)) v → (Takes a v → NamesHaveValues taking ds (assign xs n v))
          → NamesHaveValues taking (d ∷ ds) (cond (is_some o) (x ∷ assign xs n v)
          (cond same (record { name = x.name; value = v } ∷ xs) (x ∷ xs)))
      kept-step None None true p q r = (h.0, q, h.2)
      kept-step None None false p q r = h
      kept-step None (Some z) same p q r = absurd p
      kept-step (Some y) None same p q r = absurd p
      kept-step (Some y) (Some z) same p q r = (h.0, h.1, r q)

  module _ (ds : List Local) (env : Env) (fit : NamesHaveValues taking ds env) where
    -- the last local of a name
    pub placed-local : (n : List ℕ) (d : Local) (e : GoType) (v : Value) → last ds n ≡ Some d → d.of_type ≡ Some e
        → find env n ≡ Some v → IsOf taking (value_type e) v
        → Placed taking ds env (value_type e) (Location.Local n) (gives [])
    placed-local n d e v is typed at held = record {
      told = 0;
      parts = λ w. refl;
      reads = at-none (λ vs. Yields taking (value_type e) (read taking env (Location.Local n) vs))
          (λ w. subst (λ o. SoundPart taking (One taking (value_type e)) (found o w)) (sym at) held);
      stores = λ vs x len of w. at-none (λ us. SoundPart taking (NamesHaveValues taking ds)
          (store taking env (Location.Local n) (us ++ x ∷ []) w))
          (subst (λ o. SoundPart taking (NamesHaveValues taking ds) (assigned env n o x w)) (sym at)
          (kept-names ds env n x fit (subst (λ o. Takes o x) (sym is)
          (subst (λ o. Held taking o x) (sym typed) of)))) vs len;
    }

    pub placed-global : (g : ℕ) (e : GoType)
        → Placed taking ds env (value_type e) (Location.Global g (Some e)) (gives [])
    placed-global g e = record {
      told = 0;
      parts = λ w. refl;
      reads = at-none (λ vs. Yields taking (value_type e) (read taking env (Location.Global g (Some e)) vs))
          (one-left (Instr.LoadGlobal g) e [] refl (λ k. refl));
      stores = λ vs x len of w. at-none (λ us. SoundPart taking (NamesHaveValues taking ds)
          (store taking env (Location.Global g (Some e)) (us ++ x ∷ []) w))
          (stored (NamesHaveValues taking ds) env (Instr.StoreGlobal g) (x ∷ []) w refl (λ k. refl) fit) vs len;
    }

    pub placed-field : (i : ℕ) (e : GoType) (f : Gives) → Many taking 1 f
        → Placed taking ds env (value_type e) (Location.Field i (Some e)) f
    placed-field i e f h = record {
      told = 1;
      parts = h;
      reads = λ vs len. one-left (Instr.Field i) e vs len (λ k. refl);
      stores = λ vs x len of w. stored (NamesHaveValues taking ds) env (Instr.SetField i) (vs ++ x ∷ []) w
          (omega (arith, length-append vs (x ∷ []), len)) (λ k. refl) fit;
    }

    pub placed-element : (e : GoType) (f : Gives) → Many taking 2 f
        → Placed taking ds env (value_type e) (Location.Element (Some e)) f
    placed-element e f h = record {
      told = 2;
      parts = h;
      reads = λ vs len. one-left Instr.Index e vs len (λ k. refl);
      stores = λ vs x len of w. stored (NamesHaveValues taking ds) env Instr.SetIndex (vs ++ x ∷ []) w
          (omega (arith, length-append vs (x ∷ []), len)) (λ k. refl) fit;
    }

    -- a place is read after what tells it
    pub yields-place : (u : ValueType) (p : Location) (f : Gives) → Placed taking ds env u p f
        → Yields taking u (then_do f (read taking env p))
    yields-place u p f h = many-then h.told f (read taking env p) (One taking u) h.parts (λ vs len w. h.reads vs len w)
