-- Laws on what a call gives: its last step, and the phase that the code has taken apart. Assumes nothing.
use mathlib.Core.Bool.{Bool, true, false}
use mathlib.Core.List.{List}
use mathlib.Core.Path.{◌≡◌, refl, sym, ap, ◌∙◌}
use native.Mathlib.Omega.{arith}
use Prim.Native.Nat.{ℕ}
use Rattle.octets.specs.Choice.{pick}
use Rattle.refusals.specs.declared.Refusal.{Refusal}
use Rattle.state.specs.Configuration.{Configuration, configuration, goes_on, next_of, Next, on, stop, refuse}
use Rattle.state.specs.declared.phase.Phase.{Phase}
use Rattle.state.specs.declared.phase.Phase.TheVariants as P
use Rattle.state.specs.declared.stepped.Stepped.{Stepped}
use Rattle.state.specs.declared.word.Word.{Word}
use Rattle.calls.specs.Answer.{answer_at}
use Rattle.calls.specs.Response.{Response, response, given, unchanged}

pub no : {A : Type 0} → ◌≡◌ {A = Bool} false true → A
no e = absurd (let w : ◌≡◌ {A = ℕ} 0 1 = cc in omega arith)

-- ---- a refusal as the end of a call

abbrev is_on : Next → Bool
is_on (on d) = true
is_on (stop w signature d) = false

is_on_lem : (t : Bool) (w : Word) (signature : List ℕ) (d : Configuration) → is_on (pick t (on d) (stop w signature d)) ≡ t
is_on_lem true w signature d = refl
is_on_lem false w signature d = refl

given_stop : (t : Bool) (w : Word) (signature : List ℕ) (d : Configuration) (taken : ℕ) → t ≡ false → given taken (pick t (on d) (stop w signature d)) ≡ response w taken signature d
given_stop true w signature d taken e = no (sym e)
given_stop false w signature d taken e = refl

pub refused_call : (s : Stepped) (h b q : List ℕ) (why : Refusal) (count : ℕ) (d : Configuration) → next_of s h b q ≡ refuse why count d → response s.word 0 s.signature (configuration s.reader h b q) ≡ given 0 (refuse why count d)
unfolding refuse
refused_call s h b q why count d e =
    let g : goes_on s.word ≡ false = sym (is_on_lem (goes_on s.word) s.word s.signature (configuration s.reader h b q)) ∙ ap is_on e in
    sym (given_stop (goes_on s.word) s.word s.signature (configuration s.reader h b q) 0 g) ∙ ap (λ (n : Next). given 0 n) e

-- ---- by the phase

pub answer_at_lem : (p p' : Phase) (d : Configuration) (good : Bool) (c : Response) → p ≡ p' → c ≡ answer_at p' d good → c ≡ answer_at p d good
answer_at_lem p p' d good c e f = f ∙ ap (λ (p : Phase). answer_at p d good) (sym e)

-- all phases but the three in which a question is open
pub no_question : (p : Phase) (d : Configuration) (good : Bool) → ((n : ℕ) → p ≡ P.HeadAsked n → ⊥) → ((size next : ℕ) → p ≡ P.BlockAsked size next → ⊥) → ((have total : ℕ) → p ≡ P.EndAsked have total → ⊥) → unchanged 1 d ≡ answer_at p d good
unfolding answer_at
no_question (P.Head n) d good h k l = refl
no_question (P.HeadAsked n) d good h k l = absurd (h n refl)
no_question (P.FirstLine n) d good h k l = refl
no_question (P.Data have size) d good h k l = refl
no_question (P.DataEnd have size) d good h k l = refl
no_question (P.NextLine have size) d good h k l = refl
no_question (P.BlockAsked size next) d good h k l = absurd (k size next refl)
no_question (P.Trailer have total) d good h k l = refl
no_question (P.EndAsked have total) d good h k l = absurd (l have total refl)
no_question (P.Closed total) d good h k l = refl
no_question (P.Complete total) d good h k l = refl
no_question (P.Refused n) d good h k l = refl
