-- AN HONEST PART COMES OUT WHOLE, proved: it is an honest stream, and so comes out. Assumes nothing.
use mathlib.Core.Path.{◌≡◌, refl, sym}
use mathlib.Core.List.{List, [], ◌∷◌, ◌++◌, append_assoc}
use Prim.Native.Nat.{ℕ}
use Rattle.ring.specs.Keys.{terms_of}
use Rattle.ring.specs.declared.KeyRing.{KeyRing}
use Rattle.sections.specs.Reading.{last}
use Rattle.stream.specs.Events.{closed}
use Rattle.agreement.specs.Run.{Invocation}
use Rattle.exactness.specs.Shows.{Chunk, body_of}
use Rattle.exactness.proofs.Parts.{part_whole}
use Rattle.claims.specs.Parts.{HonestPartComesOut}
use Rattle.claims.proofs.Demand2.{honest_comes_out}
use Rattle.claims.proofs.Untold.{stands_told}

-- the bodies of chunks after chunks, joined
body_both : (xs ys : List Chunk) → body_of (xs ++ ys) ≡ body_of xs ++ body_of ys
unfolding body_of
body_both [] ys = refl
body_both (c ∷ xs) ys = rw (body_both xs ys) (sym (append_assoc c.block (body_of xs) (body_of ys)))

module _ (keys : KeyRing) (uri h b q : List ℕ) (ks : List Invocation) where
  pub honest_part_comes_out : HonestPartComesOut keys uri h b q ks
  honest_part_comes_out s p more g t e a =
      let w = part_whole (terms_of keys uri) s p g t in
      let o = honest_comes_out keys uri h b q ks p more w.honest e a in
      record {
        all_events = o.all_events;
        part_body = o.whole_body;
        in_the_show = rw (← t.run, body_both t.earlier (p.chunks ++ t.later), body_both p.chunks t.later);
        closes = rw o.all_events (stands_told _ (last (closed _)) _ (record { before = w.others; after = []; joined = w.closes }));
        same_blocks = w.blocks;
      }
