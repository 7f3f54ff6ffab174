-- The plain reading, byte by byte, and what that gives: the bound on the number of sections is never met, and the
-- reading of a stream is its first section's verdict and the reading of the rest. Assumes nothing.
use mathlib.Core.Path.{◌≡◌, refl, sym, ap, ◌∙◌, fun_ext}
use mathlib.Core.Bool.{Bool, true, false}
use mathlib.Core.List.{List, [], ◌∷◌, ◌++◌, append_assoc}
use Prim.Native.Nat.{ℕ, zero, suc, ◌+◌, ◌≤◌}
use native.Mathlib.Nat.{add-zero, add-suc, suc-add, not-suc-le-zero}
use native.Mathlib.Omega.{arith}
use native.Mathlib.Numerals.{add-one}
use lib.ListN.{length}
use Rattle.sections.specs.Reading.{Log, Rules, Cut, uncut, cut_at, push, cut, judged, ran_out, one_section, sections, reading_at, reading}
use Rattle.sections.proofs.Cuts.{Shorter, cut_shorter}

module _ {C Q E L : Type 0} (R : Rules C Q E L) where
  -- the reading of bs, where the section that is under way has the bytes g already
  unfoldable pub scan : C → List ℕ → ℕ → List ℕ → List Bool → Bool → Log Q E L
  scan c g at [] ans told = ran_out R at told
  scan c g at (b ∷ bs) ans told =
      elim (R.whole c (g ++ b ∷ [])) [
        | true ↦ judged R (R.judge c (g ++ b ∷ [])) (suc at) ans (λ c' ans'. scan c' [] (suc at) bs ans' told)
        | false ↦ scan c (g ++ b ∷ []) (suc at) bs ans told
      ]

  -- the same, with the section cut off first
  abbrev scan_cut : C → List ℕ → ℕ → List ℕ → List Bool → Bool → Cut → Log Q E L
  scan_cut c g at bs ans told uncut = ran_out R (at + length bs) told
  scan_cut c g at bs ans told (cut_at f r) =
      judged R (R.judge c (g ++ f)) (at + length f) ans (λ c' ans'. scan c' [] (at + length f) r ans' told)

  scan_cut_push : (c : C) (g : List ℕ) (at b : ℕ) (bs : List ℕ) (ans : List Bool) (told : Bool) (k : Cut)
      → scan_cut c (g ++ b ∷ []) (suc at) bs ans told k ≡ scan_cut c g at (b ∷ bs) ans told (push b k)
  scan_cut_push c g at b bs ans told uncut = rw (add-suc, suc-add)
  scan_cut_push c g at b bs ans told (cut_at f r) = simp (add-suc, suc-add, append_assoc)

  scan_cut_lem : (c : C) (bs g : List ℕ) (at : ℕ) (ans : List Bool) (told : Bool) (p : List ℕ → Bool)
      → ((t : List ℕ) → p t ≡ R.whole c (g ++ t)) → scan c g at bs ans told ≡ scan_cut c g at bs ans told (cut p bs)
  unfolding scan cut
  scan_cut_lem c [] g at ans told p h = rw add-zero
  scan_cut_lem c (b ∷ bs) g at ans told p h =
      by (p (b ∷ [])) (sym (h (b ∷ [])))
      (scan_cut_lem c bs (g ++ b ∷ []) (suc at) ans told (λ t. p (b ∷ t)) (λ t. rw append_assoc (h (b ∷ t))))
    where
      by : (x : Bool) → R.whole c (g ++ b ∷ []) ≡ x
          → scan c (g ++ b ∷ []) (suc at) bs ans told ≡ scan_cut c (g ++ b ∷ []) (suc at) bs ans told (cut (λ t. p (b ∷ t)) bs)
          → scan c g at (b ∷ bs) ans told
          ≡ scan_cut c g at (b ∷ bs) ans told (elim x [ true ↦ cut_at (b ∷ []) bs | false ↦ push b (cut (λ t. p (b ∷ t)) bs) ])
      by true e ih = rw (e, scan) (rw add-one)
      by false e ih = rw (e, scan) (ih ∙ scan_cut_push c g at b bs ans told (cut (λ t. p (b ∷ t)) bs))

  sections_scan : (k : ℕ) (c : C) (at : ℕ) (bs : List ℕ) (ans : List Bool) (told : Bool)
      → length bs ≤ k → sections R k c at bs ans told ≡ scan c [] at bs ans told
  unfolding sections scan
  sections_scan zero c at [] ans told h = rw add-zero
  sections_scan zero c at (b ∷ bs) ans told h = absurd (not-suc-le-zero h)
  sections_scan (suc k) c at bs ans told h =
      by (cut (R.whole c) bs) (cut_shorter (R.whole c) bs) (λ c' at' r ans' l. sections_scan k c' at' r ans' told l)
      ∙ sym (scan_cut_lem c bs [] at ans told (R.whole c) (λ t. refl))
    where
      by : (m : Cut) → Shorter bs m
          → ((c' : C) (at' : ℕ) (r : List ℕ) (ans' : List Bool) → length r ≤ k → sections R k c' at' r ans' told ≡ scan c' [] at' r ans' told)
          → one_section R c at bs ans told m (λ c' at' r ans'. sections R k c' at' r ans' told) ≡ scan_cut c [] at bs ans told m
      by uncut s ih = refl
      by (cut_at f r) s ih =
          ap (λ (n : C → List Bool → Log Q E L). judged R (R.judge c f) (at + length f) ans n)
          (fun_ext λ c'. fun_ext λ ans'. ih c' (at + length f) r ans' (omega arith))

  pub at_scan : (c : C) (at : ℕ) (bs : List ℕ) (ans : List Bool) (told : Bool) → reading_at R c at bs ans told ≡ scan c [] at bs ans told
  unfolding reading_at
  at_scan c at bs ans told = sections_scan (length bs) c at bs ans told (omega arith)

  pub reading_scan : (c : C) (bs : List ℕ) (ans : List Bool) (told : Bool) → reading R c bs ans told ≡ scan c [] 0 bs ans told
  unfolding reading
  reading_scan c bs ans told = at_scan c 0 bs ans told

  -- The bound is never met: with as many sections allowed as there are bytes, or more, the reading is the same.
  pub sections_enough : (k : ℕ) (c : C) (at : ℕ) (bs : List ℕ) (ans : List Bool) (told : Bool)
      → length bs ≤ k → sections R k c at bs ans told ≡ reading_at R c at bs ans told
  sections_enough k c at bs ans told h = sections_scan k c at bs ans told h ∙ sym (at_scan c at bs ans told)

  -- The reading is the first section's verdict, and the reading of what comes after that section.
  pub section_read : (c : C) (at : ℕ) (bs : List ℕ) (ans : List Bool) (told : Bool)
      → reading_at R c at bs ans told
      ≡ one_section R c at bs ans told (cut (R.whole c) bs) (λ c' at' r ans'. reading_at R c' at' r ans' told)
  section_read c at bs ans told = at_scan c at bs ans told ∙ scan_cut_lem c bs [] at ans told (R.whole c) (λ t. refl) ∙ by (cut (R.whole c) bs)
    where
      by : (m : Cut) → scan_cut c [] at bs ans told m ≡ one_section R c at bs ans told m (λ c' at' r ans'. reading_at R c' at' r ans' told)
      by uncut = refl
      by (cut_at f r) =
          ap (λ (n : C → List Bool → Log Q E L). judged R (R.judge c f) (at + length f) ans n)
          (fun_ext λ c'. fun_ext λ ans'. sym (at_scan c' (at + length f) r ans' told))
