-- Flows that fit, put together.
-- For: `Fitting`, specs/Flowing.antt
-- By: cases of the outcome of a flow; for a loop, induction over the turns that it may still take
use Rattle.std.proofs.Common.{◌≡◌, ℕ, zero, suc, Bool, true, false, not, ◌||◌, List, take, Option, Some, None, refl}
use Rattle.std.proofs.Common.{subst, sym, ◌∙◌}
use Rattle.std.specs.Prelude.{is_some}
use Rattle.std.proofs.lemmas.Bool.{false≢true}
use Rattle.golf_data.specs.declared.value.Value.{Value}
use Rattle.golf_model.specs.Values.{bool_of}
use Rattle.golf_meaning_flat.specs.Worlds.{World, Part}
use Rattle.golf_meaning_source.specs.Names.{Env}
use Rattle.golf_meaning_source.specs.Operations.{Taking}
use Rattle.golf_meaning_statements.specs.Flows.{Course, Flow, on, after, then_flow, cut, ends_here, or_else, guarded}
use Rattle.golf_meaning_statements.specs.Flows.{if_fits, by_test, tested, turned, turns, then_post}
use Rattle.golf_meaning_statements.specs.Selects.{out_of_select}
use Rattle.golf_meaning_runs.specs.Sound.{SoundPart}
use Rattle.golf_meaning_runs.specs.TypingLaws.{IsTruth}
use Rattle.golf_meaning_runs.specs.SoundFlows.{Fitting, Never}
use Rattle.golf_meaning_runs.proofs.Calculus.{lax}

module _ (taking : Taking) where
  module _ (K B C S : Env → Type 0) where
    pub fitting-on : (p : Part Env) → SoundPart taking K p → Fitting taking K B C S (on p)
    fitting-on (Part.Gives env w) h = h
    fitting-on (Part.Stops s os) h = h

    pub fitting-after : {A : Type 0} (p : Part A) (f : A → World → Flow) (L : A → Type 0) → SoundPart taking L p
        → ((a : A) (w : World) → L a → Fitting taking K B C S (f a w)) → Fitting taking K B C S (after p f)
    fitting-after (Part.Gives a w) f L h k = k a w h
    fitting-after (Part.Stops s os) f L h k = h

    -- a condition that is one value, of the truth values
    pub fitting-tested : (vs : List Value) (w : World) (f g : Flow) → IsTruth taking vs → Fitting taking K B C S f
        → Fitting taking K B C S g → Fitting taking K B C S (tested vs w f g)
    fitting-tested vs w f g is h k = subst (λ us. Fitting taking K B C S (tested us w f g)) (sym is.1)
        (by (bool_of is.0) is.2)
      where
        by : (m : Option Bool) → (taking.strict ≡ true → is_some m ≡ true) → Fitting taking K B C S (by_test m w f g)
        by None q = lax taking.strict q
        by (Some true) q = h
        by (Some false) q = k

    -- an answer whose kinds are looked at if it is strict
    pub fitting-if : (fit strict : Bool) (w : World) (f : Flow) → taking.strict ≡ strict
        → ((taking.strict ≡ true → fit ≡ true) → Fitting taking K B C S f)
        → Fitting taking K B C S (if_fits (not strict || fit) w f)
    fitting-if true true w f is h = h (λ s. refl)
    fitting-if false true w f is h = is
    fitting-if fit false w f is h = h (λ s. absurd (false≢true (sym is ∙ s)))

    pub fitting-guarded : (b : Bool) (w : World) (f : Flow) → b ≡ true → Fitting taking K B C S f
        → Fitting taking K B C S (guarded b w f)
    fitting-guarded b w f e h = subst (λ z. Fitting taking K B C S (guarded z w f)) (sym e) h

    -- ways that are open stay open
    pub fitting-as : (K2 B2 C2 S2 : Env → Type 0) (f : Flow) → Fitting taking K B C S f → ((env : Env) → K env → K2 env)
        → ((env : Env) → B env → B2 env) → ((env : Env) → C env → C2 env) → ((env : Env) → S env → S2 env)
        → Fitting taking K2 B2 C2 S2 f
    fitting-as K2 B2 C2 S2 (Flow.Goes Course.On env w) h k b c s = k env h
    fitting-as K2 B2 C2 S2 (Flow.Goes Course.Breaks env w) h k b c s = b env h
    fitting-as K2 B2 C2 S2 (Flow.Goes Course.Continues env w) h k b c s = c env h
    fitting-as K2 B2 C2 S2 (Flow.Goes Course.Skips env w) h k b c s = s env h
    fitting-as K2 B2 C2 S2 (Flow.Ends t) h k b c s = h

    -- a statement after another, which skips nothing
    pub fitting-then : (L : Env → Type 0) (x : Flow) (f : Env → World → Flow) → Fitting taking L B C Never x
        → ((env : Env) (w : World) → L env → Fitting taking K B C S (f env w)) → Fitting taking K B C S (then_flow x f)
    fitting-then L (Flow.Goes Course.On env w) f h k = k env w h
    fitting-then L (Flow.Goes Course.Skips env w) f h k = absurd h
    fitting-then L _ f h k = h

    pub fitting-cut : (K1 B1 C1 : Env → Type 0) (k : ℕ) (x : Flow) → Fitting taking K1 B1 C1 Never x
        → ((env : Env) → K1 env → K (take k env)) → ((env : Env) → B1 env → B (take k env))
        → ((env : Env) → C1 env → C (take k env)) → Fitting taking K B C S (cut k x)
    fitting-cut K1 B1 C1 k (Flow.Goes Course.On env w) h p q r = p env h
    fitting-cut K1 B1 C1 k (Flow.Goes Course.Breaks env w) h p q r = q env h
    fitting-cut K1 B1 C1 k (Flow.Goes Course.Continues env w) h p q r = r env h
    fitting-cut K1 B1 C1 k (Flow.Goes Course.Skips env w) h p q r = absurd h
    fitting-cut K1 B1 C1 k (Flow.Ends t) h p q r = h

    pub fitting-ends : (x : Flow) → Fitting taking K B C K x → Fitting taking K B C S (ends_here x)
    fitting-ends (Flow.Goes Course.On env w) h = h
    fitting-ends (Flow.Goes Course.Breaks env w) h = h
    fitting-ends (Flow.Goes Course.Continues env w) h = h
    fitting-ends (Flow.Goes Course.Skips env w) h = h
    fitting-ends (Flow.Ends t) h = h

    pub fitting-else : (L : Env → Type 0) (x : Flow) (f : Env → World → Flow) → Fitting taking K B C L x
        → ((env : Env) (w : World) → L env → Fitting taking K B C S (f env w)) → Fitting taking K B C S (or_else x f)
    fitting-else L (Flow.Goes Course.Skips env w) f h k = k env w h
    fitting-else L _ f h k = h

    -- what a loop leaves is what each turn leaves
    pub fitting-turned : (I : Env → Type 0) (x : Flow) (next : Env → World → Flow) → Fitting taking I K I K x
        → ((env : Env) (w : World) → I env → Fitting taking K B C S (next env w))
        → Fitting taking K B C S (turned x next)
    fitting-turned I (Flow.Goes Course.On env w) next h k = k env w h
    fitting-turned I (Flow.Goes Course.Continues env w) next h k = k env w h
    fitting-turned I _ next h k = h

    pub fitting-turns : (I : Env → Type 0) (step : Env → World → Flow)
        → ((env : Env) (w : World) → I env → Fitting taking I K I K (step env w)) → (n : ℕ) (env : Env) (w : World)
        → I env → Fitting taking K B C S (turns n step env w)
    fitting-turns I step h zero env w k = tt
    fitting-turns I step h (suc n) env w k =
        fitting-turned I (step env w) (turns n step) (h env w k) (λ e u i. fitting-turns I step h n e u i)

    pub fitting-post : (L : Env → Type 0) (x : Flow) (f : Env → World → Flow) → Fitting taking L B L Never x
        → ((env : Env) (w : World) → L env → Fitting taking K B C S (f env w)) → Fitting taking K B C S (then_post x f)
    fitting-post L (Flow.Goes Course.On env w) f h k = k env w h
    fitting-post L (Flow.Goes Course.Breaks env w) f h k = h
    fitting-post L (Flow.Goes Course.Continues env w) f h k = k env w h
    fitting-post L (Flow.Goes Course.Skips env w) f h k = absurd h
    fitting-post L (Flow.Ends t) f h k = h

    pub fitting-select : (x : Flow) → Fitting taking K K C Never x → Fitting taking K B C S (out_of_select x)
    fitting-select (Flow.Goes Course.Skips env w) h = absurd h
    fitting-select _ h = h
