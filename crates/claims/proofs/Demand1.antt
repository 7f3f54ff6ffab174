-- DEMAND 1, proved. Assumes nothing.
use mathlib.Core.Path.{◌≡◌, refl, sym, ◌∙◌}
use mathlib.Core.Bool.{Bool, true, false, ◌&&◌}
use mathlib.Core.List.{List}
use Prim.Native.Nat.{ℕ}
use borrow.Author.Tests.{lt-leb}
use lib.Dec.{leb}
use lib.ListN.{length}
use Rattle.ring.specs.declared.KeyRecord.{KeyRecord}
use Rattle.ring.specs.declared.KeyRing.{KeyRing}
use Rattle.sections.specs.Calls.{Request, feed}
use Rattle.stream.specs.Fields.{value_of, values_of}
use Rattle.stream.specs.Limits.{head_limit, block_limit, ring_limit}
use Rattle.handing.specs.Released.{block_part}
use Rattle.handing.proofs.ValueLaws.{handed_short}
use Rattle.lent.specs.Table.{keys_of}
use Rattle.state.specs.Configuration.{Configuration}
use Rattle.calls.specs.Response.{unchanged}
use Rattle.agreement.specs.Loans.{have_room, loan_fits}
use Rattle.agreement.specs.Run.{called}
use Rattle.agreement.proofs.Lists.{misfit_unchanged}
use Rattle.agreement.proofs.Misuse.{undue_unchanged, due_fine}
use Rattle.agreement.proofs.Taking.{feed_takes}
use Rattle.agreement.proofs.TermsUse.{terms_unread, terms_unread_yet}
use Rattle.agreement.proofs.Signatures.{unsigned_call}
use Rattle.claims.specs.Demand1.{RefusalsChangeNothing, TakesSome, TermsNotRead, TermsNotReadYet, OnlyQuestionsSigned, LentRefusalsChangeNothing, SeventeenRefused, ShortRefused, ShortBlock, ShortHead}
use Rattle.claims.proofs.LentCalls.{called_lent, loan_lent}

pub demand_1 : (keys : KeyRing) (uri : List ℕ) (d : Configuration) (r : Request) → RefusalsChangeNothing keys uri d r
demand_1 keys uri d r =
    record {
      two = misfit_unchanged d.reader d.head d.block d.question keys uri r;
      one = undue_unchanged keys uri d r;
      neither = due_fine keys uri d r;
    }

pub takes_some : (keys : KeyRing) (uri : List ℕ) (d : Configuration) → TakesSome keys uri d
takes_some keys uri d x xs e f = feed_takes keys uri d x xs e f

pub terms_not_read : (keys : KeyRing) (uri : List ℕ) (d : Configuration) → TermsNotRead keys uri d
terms_not_read keys uri d keys' uri' piece e f g = terms_unread keys keys' uri uri' d piece e f g

pub terms_not_read_yet : (keys : KeyRing) (uri : List ℕ) (d : Configuration) → TermsNotReadYet keys uri d
terms_not_read_yet keys uri d keys' uri' piece e f = terms_unread_yet keys keys' uri uri' d piece e f

pub only_questions_signed : (keys : KeyRing) (uri : List ℕ) (d : Configuration) → OnlyQuestionsSigned keys uri d
only_questions_signed keys uri d r e = unsigned_call keys uri d r e

pub lent_demand_1 : (records : List KeyRecord) (uri : List ℕ) (d : Configuration) (r : Request) → LentRefusalsChangeNothing records uri d r
lent_demand_1 records uri d r =
    let c = demand_1 (keys_of records) uri d r in
    let e = called_lent records uri d r in
    let l = loan_lent d.head d.block d.question records r in
    record {
      two = λ f. e ∙ c.two (sym l ∙ f);
      one = λ f g. e ∙ c.one (sym l ∙ f) g;
      neither = λ f g. rw e (c.neither (sym l ∙ f) g);
    }

none_fits : (t : Bool) → t && false ≡ false
none_fits true = refl
none_fits false = refl

pub seventeen_refused : SeventeenRefused
seventeen_refused records uri d piece m =
    (lent_demand_1 records uri d (feed piece)).two
    (rw (lt-leb (length records) ring_limit m) (none_fits (have_room d.head d.block d.question)))

-- one test of three that fails
module _ (keys : KeyRing) (uri : List ℕ) (d : Configuration) (r : Request) where
  unfit : leb head_limit (length d.head) && (leb block_limit (length d.block) && leb head_limit (length d.question)) ≡ false → called keys uri d r ≡ unchanged 2 d
  unfolding have_room loan_fits
  unfit e = (demand_1 keys uri d r).two (rw e)

  pub short_refused : ShortRefused keys uri d r
  short_refused =
      record {
        head = λ h. unfit (rw (lt-leb head_limit (length d.head) h));
        block = λ h. unfit (rw (lt-leb block_limit (length d.block) h) (none_fits (leb head_limit (length d.head))));
        question = λ h.
            unfit
            (rw (lt-leb head_limit (length d.question) h, none_fits (leb block_limit (length d.block))) (none_fits (leb head_limit (length d.head))));
      }

pub short_block : ShortBlock
unfolding block_part
short_block d h = rw (lt-leb block_limit (length d.block) h)

pub short_head : ShortHead
unfolding value_of values_of
short_head d name h = let e = handed_short d.head d.reader.fixed.accepted h in (rw e refl, rw e refl)
