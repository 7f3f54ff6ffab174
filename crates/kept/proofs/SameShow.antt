-- THE SHOW THAT WAS ASKED FOR is read as before request #105. Assumes nothing.
use mathlib.Core.List.{List}
use mathlib.Core.Path.{◌≡◌}
use Prim.Native.Nat.{ℕ}
use Rattle.stream.specs.Head.{head_of, head_uri, text_rules, caller_rules, head_fault, trust_rules}
use Rattle.stream.specs.Stream.{judge_head}
use Rattle.stream.specs.Terms.{Terms}
use Rattle.stream.proofs.RulesHold.{without_held}
use Rattle.stream.proofs.Truth.{same_self}
use Rattle.kept.specs.Kept.{SameWhereAsked}
use Rattle.kept.specs.Unasked.{unasked_fault, unasked_head, unasked_reading}
use Rattle.kept.proofs.Later.{reading_same}

same_fault : (terms : Terms) (l : List ℕ) → head_uri (head_of l) ≡ terms.uri → head_fault terms l ≡ unasked_fault terms.ring l
unfolding head_fault caller_rules unasked_fault
same_fault terms l e = rw (e, same_self terms.uri) (without_held (text_rules l (head_of l)) (trust_rules terms.ring (head_of l)) 16)

same_head : (terms : Terms) (l : List ℕ) → head_uri (head_of l) ≡ terms.uri → judge_head terms l ≡ unasked_head terms.ring l
unfolding judge_head unasked_head
same_head terms l e = rw (same_fault terms l e)

pub same_where_asked : SameWhereAsked
unfolding unasked_reading
same_where_asked terms stream answers told asked =
    reading_same terms (unasked_head terms.ring) stream answers told (λ l r e. same_head terms l (rw e at asked))
