-- A final refusal of the reader is one of the machine: no rule of the paper has the number 1 or 2. Assumes nothing.
use mathlib.Core.Path.{◌≡◌, refl}
use mathlib.Core.Bool.{Bool, false}
use mathlib.Core.List.{List, ◌++◌}
use Prim.Native.Nat.{ℕ, suc, ◌≤◌}
use native.Mathlib.Omega.{arith}
use borrow.Author.Tests.{leb-true, ne_eqb}
use lib.Dec.{leb}
use Rattle.sections.specs.Reading.{last}
use Rattle.sections.specs.Calls.{is_of_call, event}
use Rattle.sections.specs.Machine.{finished, decides}
use Rattle.refusals.specs.declared.Refusal.{Refusal}
use Rattle.stream.specs.Blocks.{line_rules, line_fault}
use Rattle.stream.specs.Ends.{end_rules, end_fault}
use Rattle.stream.specs.Events.{refused}
use Rattle.stream.specs.Head.{Head, head_of, text_rules, caller_rules, head_fault}
use Rattle.stream.specs.Lines.{Field}
use Rattle.stream.specs.Range.{Range}
use Rattle.stream.specs.Terms.{Terms}
use Rattle.stream.proofs.RulesHold.{broken_numbered}
use Rattle.state.specs.Configuration.{Configuration, refuse}
use Rattle.state.specs.declared.word.Word.TheVariants as W
use Rattle.state.proofs.BufferLaws.{length_cleared}
use Rattle.agreement.specs.Run.{word_seen}
use Rattle.agreement.proofs.Stands.{Lent, Follows}
use Rattle.agreement.proofs.Stands as F
use Rattle.agreement.proofs.Gathering.{still}

-- ---- numbers

pub line_number : (N : ℕ) (r : Range) (due full : Bool) (sofar : ℕ) (l : List ℕ) (k : ℕ) → line_fault N r due full sofar l ≡ suc k → 3 ≤ suc k
unfolding line_fault line_rules
line_number N r due full sofar l k e = leb-true 3 (suc k) (broken_numbered (leb 3) (line_rules N r due full sofar l) k refl e)

pub head_number : (terms : Terms) (l : List ℕ) (k : ℕ) → head_fault terms l ≡ suc k → 3 ≤ suc k
unfolding head_fault text_rules caller_rules
head_number terms l k e = leb-true 3 (suc k) (broken_numbered (leb 3) (text_rules l (head_of l) ++ caller_rules terms (head_of l)) k refl e)

pub end_number : (h : Head) (fs : List Field) (total : ℕ) (hash : List ℕ) (k : ℕ) → end_fault h fs total hash ≡ suc k → 3 ≤ suc k
unfolding end_fault end_rules
end_number h fs total hash k e = leb-true 3 (suc k) (broken_numbered (leb 3) (end_rules h fs total hash) k refl e)

-- ---- the refusal

pub of_stream : (n : ℕ) → 3 ≤ n → is_of_call n ≡ false
of_stream n h = rw (ne_eqb n 1 (λ e. omega arith), ne_eqb n 2 (λ e. omega arith))

pub seen_final : (why : Refusal) (signature : List ℕ) (d : Configuration) → 3 ≤ why.number
    → word_seen (W.Refused why) signature d ≡ event (last (refused why.number why.at))
unfolding word_seen
seen_final why signature d h = rw (of_stream why.number h)

pub refuses : {terms : Terms} {fields : List Field} (why : Refusal) (count : ℕ) (d : Configuration) → 3 ≤ why.number → Lent d fields → d.reader.released ≡ 0
    → Follows terms fields (refuse why count d) (decides (last (refused why.number why.at)) finished)
unfolding refuse
refuses why count d h l z =
    F.says (seen_final why _ _ h) refl
    (record { stands = F.refused; lent = still l _ refl refl (length_cleared count d.block) refl refl; taken = z })
