-- The signing string over Sig1 fits where messages are written (request #101). Two of its lines may come from the trailer, so that paper 01's
-- "never longer than its head" does not cover it; but `X-Ouinet-Sig0`'s own line, which is in no signing string, is longer than what is added.
-- Assumes nothing.
use mathlib.Core.Bool.{true, ◌||◌}
use mathlib.Core.List.{List, [], ◌∷◌}
use mathlib.Core.Path.{◌≡◌, refl}
use Prim.Native.Nat.{ℕ, ◌≤◌}
use native.Mathlib.Omega.{arith}
use lib.Dec.{eqb, ltb}
use lib.ListN.{length, drop, get_or, length-drop}
use Rattle.base64_text.specs.Base64.{is_base64}
use Rattle.base64_text.proofs.Laws.{text_length}
use Rattle.stream.specs.Bytes.{all, is_digit}
use Rattle.stream.specs.Ends.{Ends, is_digest, digest_label, ends_in, end_rules, end_fault, end_string}
use Rattle.stream.specs.Head.{Head, head_of, status_digits, text_rules}
use Rattle.stream.specs.Limits.{time_digits, data_size_digits}
use Rattle.stream.specs.Lines.{Field}
use Rattle.stream.specs.Numbers.{is_decimal}
use Rattle.stream.specs.Rule.{first_broken}
use Rattle.stream.specs.Signatures.{is_sig0, created_text}
use Rattle.stream.specs.Template.{starts_with}
use Rattle.stream.proofs.RulesHold.{AllHold, rules_hold, numbers_of}
use Rattle.stream.proofs.SigningSize.{lines_fit, text_signs, status_size}
use Rattle.stream.proofs.Truth.{left_holds, right_holds, within}

-- an end without fault keeps every rule of the end
pub end_rules_hold : (h : Head) (fs : List Field) (total : ℕ) (hash : List ℕ) → end_fault h fs total hash ≡ 0 → AllHold (end_rules h fs total hash)
unfolding end_fault end_rules
end_rules_hold h fs total hash e = rules_hold (end_rules h fs total hash) refl e

-- "in this order": all of 13, then the size, then the digest, then the key
pub end_rules_order
    : (h : Head) (fs : List Field) (total : ℕ) (hash : List ℕ)
    → numbers_of (end_rules h fs total hash) ≡ 13 ∷ 13 ∷ 13 ∷ 13 ∷ 13 ∷ 13 ∷ 13 ∷ 13 ∷ 13 ∷ 14 ∷ 15 ∷ 12 ∷ []
unfolding end_rules
end_rules_order h fs total hash = refl

decimal_size : (most : ℕ) (l : List ℕ) → is_decimal most l ≡ true → length l ≤ most
unfolding is_decimal
decimal_size most l h = (within 1 most (length l) (left_holds _ (eqb (length l) 1 || ltb 48 (get_or l 0 0)) (right_holds (all is_digit l) _ h))).1

digest_size : (v : List ℕ) → is_digest v ≡ true → length v ≤ 52
unfolding is_digest
digest_size v h =
    let e = text_length 32 (drop 8 v) (right_holds (starts_with digest_label v) (is_base64 32 (drop 8 v)) h) in
    omega (arith, e, length-drop 8 v)

-- the texts of the three that the string takes in
pub record ShortEnds (e : Ends) : Type 0 where
  pub digest : length e.digest ≤ 52
  pub data_size : length e.data_size ≤ data_size_digits
  pub created : length (created_text e.sig1) ≤ time_digits

pub short_ends : (h : Head) (fs : List Field) (total : ℕ) (hash : List ℕ) → end_fault h fs total hash ≡ 0 → ShortEnds (ends_in fs)
unfolding end_rules is_sig0
short_ends h fs total hash e =
    let rules = end_rules_hold h fs total hash e in
    let digest : is_digest (ends_in fs).digest ≡ true = search in
    let size : is_decimal data_size_digits (ends_in fs).data_size ≡ true = search in
    let sig1 : is_sig0 (ends_in fs).sig1 ≡ true = search in
    record {
      digest = digest_size _ digest;
      data_size = decimal_size data_size_digits _ size;
      created = decimal_size time_digits (created_text (ends_in fs).sig1) (search (left_holds, right_holds));
    }

-- THE LAW
pub end_fits : (l : List ℕ) (e : Ends) → first_broken (text_rules l (head_of l)) ≡ 0 → ShortEnds e → length (end_string (head_of l) e) ≤ length l
unfolding end_string status_digits
end_fits l e h k =
    let signs = text_signs l h in
    lines_fit l (status_digits (head_of l)) (created_text e.sig1) _ signs (status_size _ signs.status) (omega (arith, k.digest, k.data_size, k.created))
