-- What a stream leaves, byte by byte: the section under way is gathered as far as it came. Assumes nothing.
use mathlib.Core.Path.{◌≡◌, refl, sym, ap, ◌∙◌, fun_ext}
use mathlib.Core.Bool.{Bool, true, false}
use mathlib.Core.List.{List, [], ◌∷◌, ◌++◌, append_assoc, append-nil}
use Prim.Native.Nat.{ℕ, zero, suc, ◌≤◌}
use native.Mathlib.Nat.{not-suc-le-zero}
use native.Mathlib.Omega.{arith}
use lib.ListN.{length}
use Rattle.sections.specs.Reading.{Rules, Cut, uncut, cut_at, push, cut}
use Rattle.sections.specs.Leaving.{Effects, after_verdict, out_of_bytes, after_section, after_sections, leaving}
use Rattle.sections.proofs.Cuts.{Shorter, cut_shorter}

module _ {C Q E L B : Type 0} (R : Rules C Q E L) (F : Effects C Q L B) where
  -- what bs leaves of b, where the section that is under way has the bytes g already, and began with b
  unfoldable pub trail : C → List ℕ → List ℕ → List Bool → Bool → B → B
  trail c g [] ans told b = out_of_bytes R F c g told (F.gather c g b)
  trail c g (x ∷ bs) ans told b =
      elim (R.whole c (g ++ x ∷ [])) [
        | true ↦ after_verdict R F c (g ++ x ∷ []) (R.judge c (g ++ x ∷ [])) ans (F.gather c (g ++ x ∷ []) b) (λ c' ans' b'. trail c' [] bs ans' told b')
        | false ↦ trail c (g ++ x ∷ []) bs ans told b
      ]

  -- the same, with the section cut off first
  abbrev trail_cut : C → List ℕ → List ℕ → List Bool → Bool → B → Cut → B
  trail_cut c g bs ans told b uncut = out_of_bytes R F c (g ++ bs) told (F.gather c (g ++ bs) b)
  trail_cut c g bs ans told b (cut_at f r) =
      after_verdict R F c (g ++ f) (R.judge c (g ++ f)) ans (F.gather c (g ++ f) b) (λ c' ans' b'. trail c' [] r ans' told b')

  trail_cut_push : (c : C) (g : List ℕ) (x : ℕ) (bs : List ℕ) (ans : List Bool) (told : Bool) (b : B) (k : Cut)
      → trail_cut c (g ++ x ∷ []) bs ans told b k ≡ trail_cut c g (x ∷ bs) ans told b (push x k)
  trail_cut_push c g x bs ans told b uncut = rw (append_assoc g (x ∷ []) bs)
  trail_cut_push c g x bs ans told b (cut_at f r) = rw (append_assoc g (x ∷ []) f)

  trail_cut_lem : (c : C) (bs g : List ℕ) (ans : List Bool) (told : Bool) (b : B) (p : List ℕ → Bool)
      → ((t : List ℕ) → p t ≡ R.whole c (g ++ t)) → trail c g bs ans told b ≡ trail_cut c g bs ans told b (cut p bs)
  unfolding trail cut
  trail_cut_lem c [] g ans told b p h = rw (append-nil g)
  trail_cut_lem c (x ∷ bs) g ans told b p h =
      by (p (x ∷ [])) (sym (h (x ∷ [])))
      (trail_cut_lem c bs (g ++ x ∷ []) ans told b (λ t. p (x ∷ t)) (λ t. rw append_assoc (h (x ∷ t))))
    where
      by : (t : Bool) → R.whole c (g ++ x ∷ []) ≡ t
          → trail c (g ++ x ∷ []) bs ans told b ≡ trail_cut c (g ++ x ∷ []) bs ans told b (cut (λ t. p (x ∷ t)) bs)
          → trail c g (x ∷ bs) ans told b
          ≡ trail_cut c g (x ∷ bs) ans told b (elim t [ true ↦ cut_at (x ∷ []) bs | false ↦ push x (cut (λ t. p (x ∷ t)) bs) ])
      by true e ih = rw (e, trail)
      by false e ih = rw (e, trail) (ih ∙ trail_cut_push c g x bs ans told b (cut (λ t. p (x ∷ t)) bs))

  sections_trail : (k : ℕ) (c : C) (bs : List ℕ) (ans : List Bool) (told : Bool) (b : B)
      → length bs ≤ k → after_sections R F k c bs ans told b ≡ trail c [] bs ans told b
  unfolding after_sections trail
  sections_trail zero c [] ans told b h = refl
  sections_trail zero c (x ∷ bs) ans told b h = absurd (not-suc-le-zero h)
  sections_trail (suc k) c bs ans told b h =
      by (cut (R.whole c) bs) (cut_shorter (R.whole c) bs) (λ c' r ans' b' l. sections_trail k c' r ans' told b' l)
      ∙ sym (trail_cut_lem c bs [] ans told b (R.whole c) (λ t. refl))
    where
      by : (m : Cut) → Shorter bs m
          → ((c' : C) (r : List ℕ) (ans' : List Bool) (b' : B) → length r ≤ k → after_sections R F k c' r ans' told b' ≡ trail c' [] r ans' told b')
          → after_section R F c bs ans told b m (λ c' r ans' b'. after_sections R F k c' r ans' told b') ≡ trail_cut c [] bs ans told b m
      by uncut s ih = refl
      by (cut_at f r) s ih =
          ap (λ (n : C → List Bool → B → B). after_verdict R F c f (R.judge c f) ans (F.gather c f b) n)
          (fun_ext λ c'. fun_ext λ ans'. fun_ext λ b'. ih c' r ans' b' (omega arith))

  pub leaving_trail : (c : C) (bs : List ℕ) (ans : List Bool) (told : Bool) (b : B) → leaving R F c bs ans told b ≡ trail c [] bs ans told b
  unfolding leaving
  leaving_trail c bs ans told b = sections_trail (length bs) c bs ans told b (omega arith)
