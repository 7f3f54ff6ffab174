-- The whole blocks and the last ones, by what each call ensures.
use Rattle.std.proofs.Common.{◌≡◌, ◌-◌, ◌*◌, ◌%◌, ◌<◌, ℕ, List, length, map, take, drop, refl, sym, ◌∙◌, ap, ap₂, arith}
use Rattle.hash.specs.Sha2.{unparsed}
use Rattle.hash.specs.Parts.{by_table, last_blocks, last_hashed}
use Rattle.hash.proofs.LastLaws.{long_last}
use Rattle.hash.proofs.PartLaws.{left_is, last_left}
use Rattle.hash.proofs.last.close.Goals as goal

pub returns : goal.returns
unfolding unparsed last_blocks
returns g c =
    let f = g.S.Words.value in
    let v = by_table g.S.Words.variant (map f c.args.words.now) in
    let b = c.args.body.now in
    let high = f c.args.high in
    let low = f c.args.low in
    let t = c.fill-t.result in
    let s = map f c.args.s in
    let h = map f c.compress_all-h.result in
    let size = 16 * c.BYTES.result in
    let some : 0 < v.bytes = omega (arith, g.met.S.Words.bytes_are, g.met.S.Words.bytes_fit) in
    let whole : size ≡ 16 * v.bytes = omega (arith, c.BYTES.ensures, g.met.S.Words.bytes_are) in
    let k = length b - length b % size in
    let rest = take (length b - k) (drop k b) in
    let all : take c.padded.result t ≡ last_blocks v rest high low = ap (λ (n : ℕ). take n t) (c.padded.ensures.long ∙ sym (long_last v rest high low)) ∙ c.fill-t.ensures in
    c.bytes_of.ensures ∙ ap (unparsed v) c.compress_all-last.ensures
    ∙ ap₂ (λ (l d : List ℕ). last_hashed v l d) (all ∙ ap (λ (l : List ℕ). last_blocks v l high low) (left_is v some b k size whole refl)) c.compress_all-h.ensures
    ∙ last_left v some b s high low
