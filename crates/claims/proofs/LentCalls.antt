-- A call whose ring is lent as a table is the call with the ring by value, and its loan will do just where that one's will. Assumes
-- nothing.
use mathlib.Core.Path.{◌≡◌, refl, sym, ap}
use mathlib.Core.Bool.{◌&&◌}
use mathlib.Core.List.{List}
use Prim.Native.Nat.{ℕ}
use Rattle.ring.specs.declared.KeyRecord.{KeyRecord}
use Rattle.sections.specs.Calls.{Request, feed, answer, end}
use Rattle.lent.specs.Table.{keys_of}
use Rattle.lent.proofs.TableLaws.{feed_lent, count_fits}
use Rattle.agreement.specs.Loans.{have_room, ring_fits, loan_fits}
use Rattle.claims.specs.Lent.{table_fits, lent_fits, SameByValue}

pub called_lent : SameByValue
called_lent records uri d (feed piece) = sym (feed_lent records uri d piece)
called_lent records uri d (answer good) = refl
called_lent records uri d end = refl

fits_lent : (records : List KeyRecord) (r : Request) → table_fits records r ≡ ring_fits (keys_of records) r
fits_lent records (feed piece) = sym (count_fits records)
fits_lent records (answer good) = refl
fits_lent records end = refl

pub loan_lent : (h b q : List ℕ) (records : List KeyRecord) (r : Request) → lent_fits h b q records r ≡ loan_fits h b q (keys_of records) r
unfolding loan_fits
loan_lent h b q records r = ap (λ (t : _). have_room h b q && t) (fits_lent records r)
