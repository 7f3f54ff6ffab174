-- A text read by a template, part by part: what each kind of part makes of the text from a place on. Assumes nothing.
use mathlib.Core.Path.{◌≡◌, refl, ap, ◌∙◌}
use mathlib.Core.Bool.{Bool, true, false, false≢true}
use mathlib.Core.List.{List, [], ◌∷◌}
use Prim.Native.Nat.{ℕ, suc, ◌+◌, ◌-◌, ◌≤◌, ◌<◌}
use native.Mathlib.Nat.{add-sub_cancel_left}
use lib.ListN.{length, take, drop, drop_of_length-le}
use lib.Seq.{drop-cons, drop-drop}
use Rattle.stream.specs.Bytes.{is_blank}
use Rattle.stream.specs.Template.{Part, text, bytes, gap, Scanned, parts, unlike, keep, is_like, kept, scan, run, past, starts_with}
use Rattle.classes.proofs.RunLaws.{run_take, past_drop}

-- ---- a run put in front of what the other parts keep

pub keep_like : (l : List ℕ) (x : Scanned) → is_like (keep l x) ≡ is_like x
keep_like l (parts ls) = refl
keep_like l unlike = refl

pub keep_first : (l : List ℕ) (x : Scanned) → is_like x ≡ true → kept 0 (keep l x) ≡ l
keep_first l (parts ls) e = refl
keep_first l unlike e = absurd (false≢true e)

pub keep_next : (l : List ℕ) (x : Scanned) (k : ℕ) → kept (suc k) (keep l x) ≡ kept k x
keep_next l (parts ls) k = refl
keep_next l unlike k = refl

-- ---- the parts from a place on

module _ (ps : List Part) (s : List ℕ) (at : ℕ) where
  -- fixed text
  pub scan_text : (t : List ℕ) → starts_with t (drop at s) ≡ true → scan (text t ∷ ps) (drop at s) ≡ scan ps (drop (at + length t) s)
  unfolding scan
  scan_text t e = rw (e, scan) (ap (scan ps) (drop-drop (length t) at s))

  pub scan_unlike : (t : List ℕ) → starts_with t (drop at s) ≡ false → scan (text t ∷ ps) (drop at s) ≡ unlike
  unfolding scan
  scan_unlike t e = rw (e, scan)

  past_at : (p : ℕ → Bool) → past p (drop at s) ≡ drop (at + length (run p (drop at s))) s
  past_at p = past_drop p (drop at s) ∙ drop-drop (length (run p (drop at s))) at s

  -- a run that is kept
  pub scan_bytes : (p : ℕ → Bool) → let n = length (run p (drop at s)) in scan (bytes p ∷ ps) (drop at s) ≡ keep (take n (drop at s)) (scan ps (drop (at + n) s))
  unfolding scan
  scan_bytes p = rw (past_at p, ← run_take p (drop at s))

  -- a gap
  pub scan_gap : scan (gap ∷ ps) (drop at s) ≡ scan ps (drop (at + length (run is_blank (drop at s))) s)
  unfolding scan
  scan_gap = rw (past_at is_blank)

  -- the same, where e is the place at which the run ends
  pub scan_bytes_to : (p : ℕ → Bool) (e : ℕ) → e ≡ at + length (run p (drop at s)) → scan (bytes p ∷ ps) (drop at s) ≡ keep (take (e - at) (drop at s)) (scan ps (drop e s))
  scan_bytes_to p e h = rw (h, add-sub_cancel_left) (scan_bytes p)

  pub scan_gap_to : (e : ℕ) → e ≡ at + length (run is_blank (drop at s)) → scan (gap ∷ ps) (drop at s) ≡ scan ps (drop e s)
  scan_gap_to e h = rw h scan_gap

-- no part is left: the text is at its end, or it is not of the template's form
pub scan_end : (s : List ℕ) (at : ℕ) → length s ≤ at → scan [] (drop at s) ≡ parts []
unfolding scan
scan_end s at h = rw drop_of_length-le

pub scan_over : (s : List ℕ) (at : ℕ) → at < length s → scan [] (drop at s) ≡ unlike
unfolding scan
scan_over s at h = rw (drop-cons s at 0)
