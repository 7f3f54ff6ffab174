-- What a byte of the head keeps to, whatever the state: no buffer changes its length, and the length of a question lies within the question
-- buffer. Assumes nothing.
use mathlib.Core.Bool.{Bool, true, false}
use mathlib.Core.List.{List, ◌++◌}
use mathlib.Core.Path.{◌≡◌, refl, ◌∙◌}
use native.Mathlib.Omega.{arith}
use borrow.Author.Tests.{leb-true, eqb-true}
use Prim.Native.Nat.{ℕ, ◌+◌, ◌≤◌}
use lib.Dec.{eqb, leb}
use lib.ListN.{length, take, drop, set, length-set, length-append, length-drop}
use Rattle.octets.specs.Choice.{pick}
use Rattle.refusals.specs.declared.Refusal.{Refusal}
use Rattle.stream.specs.Head.{is_whole_head, head_of, signing_string, head_fault, trusted_by}
use Rattle.stream.specs.Limits.{block_limit}
use Rattle.stream.specs.Ring.{number_of}
use Rattle.stream.specs.Terms.{Terms}
use Rattle.stream.proofs.SigningSize.{signing_fits}
use Rattle.judging.specs.Judgement.{Judgement, asked, head_judged}
use Rattle.judging.specs.declared.Asked.{Asked}
use Rattle.std.specs.Prelude.{Result, Ok, Err}
use Rattle.state.specs.Configuration.{Configuration, configuration, in_phase, Next, on, stop, refuse}
use Rattle.state.specs.declared.phase.Phase.TheVariants as P
use Rattle.state.specs.declared.word.Word.{Word}
use Rattle.state.specs.declared.word.Word.TheVariants as W
use Rattle.state.proofs.BufferLaws.{length_cleared}
use Rattle.state.proofs.KeptLaws.{desk_of}
use Rattle.head_steps.specs.HeadByte.{head_answered, head_gathered, push_head}

-- e has buffers as long as d's
pub record Long (d e : Configuration) : Type 0 where
  pub head : length e.head ≡ length d.head
  pub block : length e.block ≡ length d.block
  pub question : length e.question ≡ length d.question

-- the length that a word tells is within d's buffer
abbrev pub Named : Word → Configuration → Type 0
Named W.More d = Unit {0}
Named (W.Question n key) d = n ≤ length d.question
Named (W.Head status) d = Unit {0}
Named (W.Block o n) d = (n ≤ block_limit) × (n ≤ length d.block)
Named (W.Closed total) d = Unit {0}
Named (W.Complete total) d = Unit {0}
Named (W.Refused n) d = Unit {0}

abbrev pub NamedNext : Next → Configuration → Type 0
NamedNext (on e) d = Unit {0}
NamedNext (stop w signature e) d = Named w d

pub named_pick : (d : Configuration) (t : Bool) (m n : Next) → NamedNext m d → NamedNext n d → NamedNext (pick t m n) d
named_pick d true m n a b = a
named_pick d false m n a b = b

pub named_refuse : (why : Refusal) (count : ℕ) (e d : Configuration) → NamedNext (refuse why count e) d
unfolding refuse
named_refuse why count e d = tt

-- a question of at most m bytes, or none
abbrev AsksUpTo : ℕ → Result Asked Refusal → Type 0
AsksUpTo m (Err why) = Unit {0}
AsksUpTo m (Ok a) = a.length ≤ m

record Judges (m : ℕ) (j : Judgement) : Type 0 where
  long : length j.question ≡ m
  asks : AsksUpTo m j.answer

judges_pick : (m : ℕ) (t : Bool) (j k : Judgement) → (t ≡ true → Judges m j) → (t ≡ false → Judges m k) → Judges m (pick t j k)
judges_pick m true j k f g = f refl
judges_pick m false j k f g = g refl

front_long : (s q : List ℕ) → length s ≤ length q → length (s ++ drop (length s) q) ≡ length q
front_long s q h = rw (length-append, length-drop) (omega arith)

judges : (terms : Terms) (l q : List ℕ) → Judges (length q) (head_judged terms l q)
unfolding head_judged asked
judges terms l q =
    judges_pick (length q) (eqb (head_fault terms l) 0) _ _
    (λ e. judges_pick (length q) (leb (length l) (length q)) _ _ (λ f. fits (eqb-true (head_fault terms l) 0 e) (leb-true (length l) (length q) f)) (λ f. record { long = refl; asks = tt }))
    (λ e. record { long = refl; asks = tt })
  where
    fits : head_fault terms l ≡ 0 → length l ≤ length q → Judges (length q) (asked (number_of (trusted_by terms.ring (head_of l))) (head_of l) q)
    fits e f =
        let m : length (signing_string (head_of l)) ≤ length q = omega (arith, signing_fits terms l e) in
        record { long = front_long (signing_string (head_of l)) q m; asks = m }

module _ (d : Configuration) (n : ℕ) where
  answered_long : (judged : Result Asked Refusal) → Long d (desk_of (head_answered d n judged))
  unfolding head_answered refuse
  answered_long (Err why) = record { head = refl; block = length_cleared 0 d.block; question = refl }
  answered_long (Ok a) = record { head = refl; block = refl; question = refl }

  answered_named : (e : Configuration) (judged : Result Asked Refusal) → AsksUpTo (length e.question) judged → NamedNext (head_answered d n judged) e
  unfolding head_answered refuse
  answered_named e (Err why) m = tt
  answered_named e (Ok a) m = m

long_pick : (d : Configuration) (t : Bool) (m n : Next) → Long d (desk_of m) → Long d (desk_of n) → Long d (desk_of (pick t m n))
long_pick d true m n a b = a
long_pick d false m n a b = b

refused_long : (why : Refusal) (count : ℕ) (d : Configuration) → Long d (desk_of (refuse why count d))
unfolding refuse
refused_long why count d = record { head = refl; block = length_cleared count d.block; question = refl }

long_trans : {d e f : Configuration} → Long d e → Long e f → Long d f
long_trans l m = record { head = m.head ∙ l.head; block = m.block ∙ l.block; question = m.question ∙ l.question }

pub head_long : (terms : Terms) (d : Configuration) (have x : ℕ) → Long d (desk_of (push_head terms d have x))
unfolding push_head head_gathered
head_long terms d have x =
    let l = set d.head have x in
    let e = configuration (in_phase d.reader (P.Head (have + 1))) l d.block d.question in
    let s : Long d e = record { head = length-set d.head have x; block = refl; question = refl } in
    let j = head_judged terms (take (have + 1) l) d.question in
    let k : Long e (configuration e.reader l d.block j.question) = record { head = refl; block = refl; question = (judges terms (take (have + 1) l) d.question).long } in
    long_pick d (leb (length d.head) have) _ _ (refused_long _ 0 d)
    (long_pick d (is_whole_head (take (have + 1) l)) _ _ (long_trans s (long_trans k (answered_long _ (have + 1) j.answer))) s)

pub head_named : (terms : Terms) (d : Configuration) (have x : ℕ) → NamedNext (push_head terms d have x) d
unfolding push_head head_gathered
head_named terms d have x =
    let l = set d.head have x in
    let j = head_judged terms (take (have + 1) l) d.question in
    named_pick d (leb (length d.head) have) _ _ (named_refuse _ 0 d d)
    (named_pick d (is_whole_head (take (have + 1) l)) _ _
    (answered_named _ (have + 1) d j.answer (judges terms (take (have + 1) l) d.question).asks)
    tt)
