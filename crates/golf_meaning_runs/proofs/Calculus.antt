-- Sound meanings, put together.
-- For: `SoundPart` and `Yields`, specs/Sound.antt
-- By: cases of the outcome of a part and of how many values it gives; no induction
use Rattle.std.proofs.Common.{◌≡◌, ℕ, ◌==◌, ◌||◌, Bool, true, false, not, cond, List, [], ◌∷◌, ◌++◌, length, Option}
use Rattle.std.proofs.Common.{Some, None, refl, sym, ◌∙◌, subst}
use Rattle.std.specs.Prelude.{is_some}
use Rattle.std.proofs.lemmas.Bool.{eqb-true, false≢true}
use Rattle.golf_data.specs.declared.value.Value.{Value}
use Rattle.golf_data.specs.declared.code.Instr.{Instr}
use Rattle.golf_check_types.specs.declared.types.GoType.{GoType}
use Rattle.golf_data.specs.Effects.{taken}
use Rattle.golf_meaning_flat.specs.Worlds.{Answer, World, Part, bind, asked, done}
use Rattle.golf_meaning_flat.specs.Counts.{answer_left, is_so_many, is_counted}
use Rattle.golf_meaning_flat.specs.InstructionEffects.{unfit, miscount, on_kind, chosen_by}
use Rattle.golf_meaning_source.specs.Operations.{Taking, Gives, both, then_do, all_fit, misfit, answered, visible}
use Rattle.golf_model_typing.specs.Types.{ValueType}
use Rattle.golf_code_shapes.specs.Types.{value_type}
use Rattle.golf_meaning_runs.specs.Sound.{SoundPart, One, Yields, IsOf, AllFit}
use Rattle.golf_meaning_runs.proofs.ValueKinds.{one-fits}

-- kinds that are not looked at in answers are looked at in uses
pub lax : (strict : Bool) → (strict ≡ true → false ≡ true) → strict ≡ false
lax true h = absurd (false≢true (h refl))
lax false h = refl

module _ (taking : Taking) where
  pub sound-bind : {A B : Type 0} (p : Part A) (f : A → World → Part B) (K : A → Type 0) (L : B → Type 0)
      → SoundPart taking K p → ((a : A) (w : World) → K a → SoundPart taking L (f a w)) → SoundPart taking L (bind p f)
  sound-bind (Part.Gives a w) f K L h k = k a w h
  sound-bind (Part.Stops s os) f K L h k = h

  pub sound-as : {A : Type 0} (p : Part A) (K L : A → Type 0) → SoundPart taking K p → ((a : A) → K a → L a)
      → SoundPart taking L p
  sound-as (Part.Gives a w) K L h k = k a h
  sound-as (Part.Stops s os) K L h k = h

  -- an answer to the operation has so many values
  abbrev pub Leaves : Instr → ℕ → Type 0
  Leaves i n = (k : ℕ) → answer_left taking.gives i k ≡ cond (k == 0) (Some n) None

  -- an operation with as many operands as it takes leaves values of its types
  pub sound-visible : (i : Instr) (leaves : List (Option GoType)) (vs : List Value) (w : World)
      → (length vs == taken i) ≡ true → Leaves i (length leaves)
      → SoundPart taking (AllFit taking leaves) (visible taking i leaves vs w)
  sound-visible i leaves vs w e many = subst
      (λ b. SoundPart taking (AllFit taking leaves) (chosen_by b (answered taking i leaves vs w) (unfit w))) (sym e)
      (answering w.answers)
    where
      fitting : (a : Answer) (u : World) → length a.values ≡ length leaves → (strict fit : Bool)
          → taking.strict ≡ strict → all_fit leaves a.values ≡ fit
          → SoundPart taking (AllFit taking leaves) (chosen_by (not strict || fit) (Part.Gives a.values u) (misfit u))
      fitting a u long true true is q = (long, λ s. q)
      fitting a u long true false is q = is
      fitting a u long false fit is q = (long, λ s. absurd (false≢true (sym is ∙ s)))

      named : (a : Answer) (n : ℕ) (b : Bool) → is_so_many (cond b (Some n) None) (length a.values) ≡ true
          → length a.values ≡ n
      named a n true q = sym (eqb-true n (length a.values) q)
      named a n false q = absurd (false≢true q)

      counted : (a : Answer) (u : World) (b : Bool) → is_counted taking.gives i a ≡ b
          → SoundPart taking (AllFit taking leaves)
          (bind (chosen_by b (Part.Gives a u) (miscount u))
          (λ x z. chosen_by (not taking.strict || all_fit leaves x.values) (Part.Gives x.values z) (misfit z)))
      counted a u true q = fitting a u (named a (length leaves) (a.clause == 0)
          (subst (λ m. is_so_many m (length a.values) ≡ true) (many a.clause) q)) taking.strict
          (all_fit leaves a.values) refl refl
      counted a u false q = tt

      answering : (answers : List Answer) → SoundPart taking (AllFit taking leaves)
          (bind (bind (asked answers (done w i vs))
          (λ a u. chosen_by (is_counted taking.gives i a) (Part.Gives a u) (miscount u)))
          (λ x z. chosen_by (not taking.strict || all_fit leaves x.values) (Part.Gives x.values z) (misfit z)))
      answering [] = tt
      answering (a ∷ later) = counted a (record { answers = later; operations = done w i vs })
          (is_counted taking.gives i a) refl

  -- one that leaves one value
  pub yields-visible : (i : Instr) (e : GoType) (vs : List Value) → (length vs == taken i) ≡ true → Leaves i 1
      → Yields taking (value_type e) (visible taking i (Some e ∷ []) vs)
  yields-visible i e vs h many w = sound-as (visible taking i (Some e ∷ []) vs w) (AllFit taking (Some e ∷ []))
      (One taking (value_type e)) (sound-visible i (Some e ∷ []) vs w h many) (one-fits taking e)

  -- what is done with a value of a kind
  pub kind-bind : {A B X : Type 0} (act : X → Part A) (f : A → World → Part B) (L : B → Type 0) (w : World)
      (m : Option X) → (taking.strict ≡ true → is_some m ≡ true) → ((x : X) → SoundPart taking L (bind (act x) f))
      → SoundPart taking L (bind (on_kind act w m) f)
  kind-bind act f L w None q h = lax taking.strict q
  kind-bind act f L w (Some x) q h = h x

  -- a value and what is done with it
  pub yields-then : (u : ValueType) (f : Gives) (g : List Value → Gives) (L : List Value → Type 0) → Yields taking u f
      → ((v : Value) → IsOf taking u v → (w : World) → SoundPart taking L (g (v ∷ []) w)) → (w : World)
      → SoundPart taking L (then_do f g w)
  yields-then u f g L h k w = sound-bind (f w) g (One taking u) L (h w) by
    where
      by : (vs : List Value) (x : World) → One taking u vs → SoundPart taking L (g vs x)
      by [] x q = absurd q
      by (v ∷ []) x q = k v q x
      by (v ∷ (y ∷ vs)) x q = absurd q

  -- two values, one after the other
  abbrev pub Two : ValueType → ValueType → List Value → Type 0
  Two u t [] = ⊥
  Two u t (v ∷ []) = ⊥
  Two u t (v ∷ (x ∷ [])) = (IsOf taking u v) × (IsOf taking t x)
  Two u t (v ∷ (x ∷ (y ∷ vs))) = ⊥

  pub sound-both : (u t : ValueType) (f g : Gives) → Yields taking u f → Yields taking t g → (w : World)
      → SoundPart taking (Two u t) (both f g w)
  sound-both u t f g h k w = sound-bind (f w) (λ xs x. bind (g x) (λ ys y. Part.Gives (xs ++ ys) y)) (One taking u)
      (Two u t) (h w) by
    where
      second : (v : Value) → IsOf taking u v → (ys : List Value) (y : World) → One taking t ys
          → SoundPart taking (Two u t) (Part.Gives ((v ∷ []) ++ ys) y)
      second v q [] y r = absurd r
      second v q (x ∷ []) y r = (q, r)
      second v q (x ∷ (z ∷ ys)) y r = absurd r

      by : (xs : List Value) (x : World) → One taking u xs
          → SoundPart taking (Two u t) (bind (g x) (λ ys y. Part.Gives (xs ++ ys) y))
      by [] x q = absurd q
      by (v ∷ []) x q = sound-bind (g x) (λ ys y. Part.Gives ((v ∷ []) ++ ys) y) (One taking t) (Two u t) (k x)
          (second v q)
      by (v ∷ (z ∷ xs)) x q = absurd q

  pub two-then : (u t : ValueType) (f g : Gives) (h : List Value → Gives) (L : List Value → Type 0) → Yields taking u f
      → Yields taking t g → ((v x : Value) → IsOf taking u v → IsOf taking t x → (w : World)
      → SoundPart taking L (h (v ∷ (x ∷ [])) w)) → (w : World) → SoundPart taking L (then_do (both f g) h w)
  two-then u t f g h L yf yg k w = sound-bind (both f g w) h (Two u t) L (sound-both u t f g yf yg w) by
    where
      by : (vs : List Value) (x : World) → Two u t vs → SoundPart taking L (h vs x)
      by [] x q = absurd q
      by (v ∷ []) x q = absurd q
      by (v ∷ (z ∷ [])) x q = k v z q.0 q.1 x
      by (v ∷ (z ∷ (y ∷ vs))) x q = absurd q
