-- Which byte of a number stands where, and how far one grows that is read byte by byte. Assumes nothing.
use Rattle.std.proofs.Common.{◌≡◌, ℕ, zero, suc, ◌+◌, ◌-◌, ◌*◌, ◌/◌, ◌%◌, ◌^◌, ◌<◌, ◌≤◌, [], ◌∷◌, ◌++◌, get_or, sym, ap, ◌∙◌, ⊎_elim, lt_of_lt_of_le, le_of_suc-le-suc, eq-or-lt_of_le, pow-suc, div-one, add-one, arith, lit<, shr-shr}
use native.Mathlib.Nat.{pow-le-pow_right}
use lib.ListN.{get_or-append}
use lib.Seq.{get_or_at}
use Rattle.hash.specs.Sha2.{big_endian}
use Rattle.hash.proofs.ByteLaws.{long_bytes}

-- byte i of k
pub byte_at : (k n i : ℕ) → i < k → get_or (big_endian k n) i 0 ≡ n / 2 ^ (8 * (k - 1 - i)) % 256
unfolding big_endian
byte_at zero n i h = absurd (omega arith)
byte_at (suc k) n i h =
    ⊎_elim (last k n i) (λ j. front k n i j (byte_at k (n / 256) i j)) (eq-or-lt_of_le (le_of_suc-le-suc h))
  where
    last : (k n i : ℕ) → i ≡ k → get_or (big_endian k (n / 256) ++ (n % 256 ∷ [])) i 0 ≡ n / 2 ^ (8 * (suc k - 1 - i)) % 256
    last k n i e =
        let z : 8 * (suc k - 1 - i) ≡ 0 = omega arith in
        get_or_at (big_endian k (n / 256)) (n % 256) [] 0 i (long_bytes k (n / 256) ∙ sym e) ∙ (rw (z, div-one))

    front : (k n i : ℕ) → i < k → get_or (big_endian k (n / 256)) i 0 ≡ n / 256 / 2 ^ (8 * (k - 1 - i)) % 256 → get_or (big_endian k (n / 256) ++ (n % 256 ∷ [])) i 0 ≡ n / 2 ^ (8 * (suc k - 1 - i)) % 256
    front k n i j ih =
        let z : 8 + 8 * (k - 1 - i) ≡ 8 * (suc k - 1 - i) = omega arith in
        get_or-append (big_endian k (n / 256)) _ 0 i (omega (arith, long_bytes k (n / 256)))
        ∙ ih ∙ ap (λ (x : ℕ). x % 256) (shr-shr n 8 (8 * (k - 1 - i)) ∙ ap (λ (x : ℕ). n / 2 ^ x) z)

-- how far a number grows that is read byte by byte
pub read_grows : (x i b : ℕ) → x < 256 ^ i → b < 256 → x * 256 + b < 256 ^ (i + 1)
read_grows x i b h k = rw (add-one, pow-suc 256 i) (omega arith)

pub read_fits : (k x i b : ℕ) → x < 256 ^ i → b < 256 → i < k → x * 256 + b < 256 ^ k
read_fits k x i b h j l =
    let m : i + 1 ≤ k = omega arith in
    lt_of_lt_of_le (read_grows x i b h j) (pow-le-pow_right {n = 256} (lit< tt) m)
