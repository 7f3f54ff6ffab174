-- What one exported call shows and leaves is what the reader's call on the first parts of the buffers gives. Assumes nothing.
use mathlib.Core.Path.{◌≡◌, refl, ap, ◌∙◌}
use mathlib.Core.Bool.{Bool, true, false}
use mathlib.Core.List.{List, [], ◌∷◌, ◌++◌}
use native.Mathlib.Omega.{arith}
use borrow.Author.Tests.{le-leb, lt-leb, leb-true, leb-false}
use Prim.Native.Nat.{ℕ, zero, suc, ◌≤◌}
use lib.Dec.{leb}
use lib.ListN.{length, take, drop, length-take, take-append-drop}
use Rattle.octets.specs.Choice.{pick}
use Rattle.ring.specs.declared.KeyRing.{KeyRing}
use Rattle.sections.specs.Calls.{Request}
use Rattle.stream.specs.Limits.{head_limit, block_limit}
use Rattle.handing.specs.Released.{block_part}
use Rattle.state.specs.Configuration.{configuration}
use Rattle.state.specs.declared.reader.Reader.{Reader}
use Rattle.calls.specs.Response as R
use Rattle.calls.specs.Response.{unchanged}
use Rattle.fronts.specs.Fronts.{first_parts, backed}
use Rattle.fronts.proofs.FrontLaws.{front_back}
use Rattle.packing.specs.Keys.{keys_in}
use Rattle.packing.specs.Parts.{placed}
use Rattle.layout.specs.State.{state_size, decoded}
use Rattle.layout.proofs.StateLaws.{long_stored}
use Rattle.results.specs.Results.{word_of, result_in}
use Rattle.results.specs.Written.{Answer, answered}
use Rattle.reader_export.specs.Export.{block_in, value_in, count_in}
use Rattle.reader_export.specs.Loan.{Loan, loan, is_long, Kept}
use Rattle.agreement.specs.Loans.{have_room, loan_fits}
use Rattle.agreement.specs.Run.{called, block_seen, value_seen, count_seen, aside}
use Rattle.agreement.proofs.Lists.{misfit_unchanged}
use Rattle.byte_claims.specs.ExportedCalls.{Held, same, other, kept_after}
use Rattle.byte_claims.specs.OnBytes.{held_in, seen_in, seen_of, response_seen, Untouched}
use Rattle.byte_claims.proofs.Bounds.{call_bound}
use Rattle.byte_claims.proofs.HeadBounds.{Long}
use Rattle.byte_claims.proofs.LengthsTold.{reader_in, called_in, call_is, answer_is}

-- ---- what is seen by the exported functions

front_of_front : (n m : ℕ) (b : List ℕ) → take (length (take n (take m b))) b ≡ take n (take m b)
front_of_front zero m b = refl
front_of_front (suc n) zero b = refl
front_of_front (suc n) (suc m) [] = refl
front_of_front (suc n) (suc m) (x ∷ b) = ap (λ (l : List ℕ). x ∷ l) (front_of_front n m b)

front_taken : (b : List ℕ) (n : ℕ) → take (length (block_part (take block_limit b) n)) b ≡ block_part (take block_limit b) n
unfolding block_part
front_taken b n = by (leb block_limit (length (take block_limit b)))
  where
    by : (t : Bool) → take (length (pick t (take n (take block_limit b)) [])) b ≡ pick t (take n (take block_limit b)) []
    by true = front_of_front n block_limit b
    by false = refl

module _ (x : Held) (h : state_size ≤ length x.state) where
  block_seen_lem : block_in x.state x.block ≡ block_seen (held_in x)
  unfolding block_in
  block_seen_lem = rw (le-leb state_size (length x.state) h)

  value_seen_lem : (name v : List ℕ) → value_in x.state x.head name v ≡ placed (value_seen (held_in x) name) v
  unfolding value_in
  value_seen_lem name v = rw (le-leb state_size (length x.state) h)

  count_seen_lem : (name : List ℕ) → count_in x.state x.head name ≡ count_seen (held_in x) name
  unfolding count_in
  count_seen_lem name = rw (le-leb state_size (length x.state) h)

  pub seen_held : (a : Answer) → seen_in a x ≡ seen_of a.word a.result (held_in x)
  seen_held a =
      let taken = ap (λ (p : List ℕ). take (length p) x.block) block_seen_lem ∙ front_taken x.block (decoded x.state).released in
      λ i.
      record {
        word = a.word;
        result = a.result;
        after = held_in x;
        released = length (block_seen_lem i);
        block = taken i;
        value = λ name v. value_seen_lem name v i;
        count = λ name. count_seen_lem name i;
      }

-- ---- one call

-- what a call that reaches the reader shows and leaves is the response c
pub record Shows (x : Held) (a : Answer) (t : List ℕ) (c : R.Response) : Type 0 where
  pub seen : seen_in a x ≡ response_seen t c
  pub held : held_in x ≡ c.after
  pub long : state_size ≤ length x.state

long_state_of : (s t : List ℕ) (c : R.Response) (a : Answer) → a ≡ answered s t c → state_size ≤ length s → state_size ≤ length a.state
long_state_of s t c a e h = rw e (omega (arith, h, long_stored c.after.reader s))

shows : (x : Held) (a : Answer) (t : List ℕ) (c : R.Response) → state_size ≤ length x.state → a.word ≡ word_of c.word → a.result ≡ result_in c.word c.taken c.signature t
    → held_in x ≡ c.after → Shows x a t c
shows x a t c h w u e =
    record {
      seen = seen_held x h a ∙ (λ i. seen_of (w i) (u i) (e i));
      held = e;
      long = h;
    }

-- with the caller's own buffers
module _ (ring uri : List ℕ) (x : Held) (t : List ℕ) (r : Request) (a : Answer) (h : state_size ≤ length x.state) where
  abbrev ours : Loan
  ours = loan x.state x.head x.block x.question ring uri t

  pub same_shows : is_long ours ≡ true → Kept ours r a → Shows (kept_after x (same t r) a) a t (called (keys_in ring) uri (held_in x) r)
  same_shows m k =
      let c = called_in ours r in
      let b = (call_bound (keys_in ring) uri (held_in x) r).long in
      let e : a ≡ answered x.state t (backed (reader_in ours) c) = k.whole ∙ answer_is ours r m in
      let d : decoded a.state ≡ c.after.reader = k.carried m ∙ ap (λ (c : R.Response). c.after.reader) (call_is ours r) in
      let f : held_in (kept_after x (same t r) a) ≡ c.after =
      ap (λ (r : Reader). configuration r (take head_limit a.head) (take block_limit a.block) (take head_limit a.question)) d
      ∙ ap (λ (y : Answer). configuration c.after.reader (take head_limit y.head) (take block_limit y.block) (take head_limit y.question)) e
      ∙ backs c b
      in
      shows (kept_after x (same t r) a) a t c (long_state_of x.state t _ a e h) (ap (λ (y : Answer). y.word) e) (ap (λ (y : Answer). y.result) e) f
    where
      backs : (c : R.Response) → Long (held_in x) c.after
          → configuration c.after.reader (take head_limit (c.after.head ++ drop head_limit x.head)) (take block_limit (c.after.block ++ drop block_limit x.block)) (take head_limit (c.after.question ++ drop head_limit x.question))
          ≡ c.after
      backs c b =
          rw (
            front_back head_limit x.head c.after.head b.head,
            front_back block_limit x.block c.after.block b.block,
            front_back head_limit x.question c.after.question b.question,
          )

-- with others, which will not do
leb_front : (n : ℕ) (l : List ℕ) → leb n (length (take n l)) ≡ leb n (length l)
leb_front n l = by (leb n (length l)) refl
  where
    by : (t : Bool) → leb n (length l) ≡ t → leb n (length (take n l)) ≡ t
    by true e = le-leb n (length (take n l)) (omega (arith, length-take n l, leb-true n (length l) e))
    by false e = lt-leb n (length (take n l)) (omega (arith, length-take n l, leb-false n (length l) e))

fits_front : (h b q : List ℕ) (keys : KeyRing) (r : Request) → loan_fits (take head_limit h) (take block_limit b) (take head_limit q) keys r ≡ loan_fits h b q keys r
unfolding loan_fits have_room
fits_front h b q keys r = rw (leb_front head_limit h, leb_front block_limit b, leb_front head_limit q)

module _ (x : Held) (h b q ring uri t : List ℕ) (r : Request) (misfit : loan_fits h b q (keys_in ring) r ≡ false) (a : Answer) (long : state_size ≤ length x.state) where
  abbrev theirs : Loan
  theirs = loan x.state h b q ring uri t

  refused_two : called_in theirs r ≡ unchanged 2 (first_parts (reader_in theirs))
  refused_two =
      misfit_unchanged (decoded x.state) (take head_limit h) (take block_limit b) (take head_limit q) (keys_in ring) uri r (fits_front h b q (keys_in ring) r ∙ misfit)

  module _ (m : is_long theirs ≡ true) (k : Kept theirs r a) where
    refused_answer : a ≡ answered x.state t (backed (reader_in theirs) (unchanged 2 (first_parts (reader_in theirs))))
    refused_answer = k.whole ∙ answer_is theirs r m ∙ ap (λ (c : R.Response). answered x.state t (backed (reader_in theirs) c)) refused_two

    pub other_shows : Shows (kept_after x (other h b q ring uri t r misfit) a) a t (aside (keys_in ring) uri (held_in x) (configuration (decoded x.state) h b q) r)
    other_shows =
        let e = refused_answer in
        let d : decoded a.state ≡ decoded x.state =
        k.carried m ∙ ap (λ (c : R.Response). c.after.reader) (call_is theirs r) ∙ ap (λ (c : R.Response). c.after.reader) refused_two
        in
        rw (misfit_unchanged (decoded x.state) h b q (keys_in ring) uri r misfit)
        (shows (kept_after x (other h b q ring uri t r misfit) a) a t (unchanged 2 (held_in x)) (long_state_of x.state t _ a e long)
        (ap (λ (y : Answer). y.word) e) (ap (λ (y : Answer). y.result) e)
        (ap (λ (r : Reader). first_parts (configuration r x.head x.block x.question)) d))

    pub other_untouched : Untouched h b q a
    other_untouched =
        record {
          head = ap (λ (y : Answer). y.head) refused_answer ∙ take-append-drop head_limit h;
          block = ap (λ (y : Answer). y.block) refused_answer ∙ take-append-drop block_limit b;
          question = ap (λ (y : Answer). y.question) refused_answer ∙ take-append-drop head_limit q;
        }
