-- The two rules of the version, one after the other. Assumes nothing.
use mathlib.Core.Bool.{true}
use mathlib.Core.List.{List}
use mathlib.Core.Path.{◌≡◌, sym, ap, ◌∙◌}
use Prim.Native.Nat.{ℕ}
use Rattle.octets.specs.Octets.{octets}
use Rattle.fields.specs.Table.{fields_in}
use Rattle.stream.specs.Bytes.{same}
use Rattle.stream.specs.Fields.{has_field, value_of}
use Rattle.stream.specs.Signatures.{version_name}
use Rattle.head.proofs.PlainLaws.{no_version, other_version, our_version}
use Rattle.head.proofs.plain.version_fault.Goals as goal

pub returns-then-not-has : goal.returns-then-not-has
returns-then-not-has c = no_version _ (sym c.has.ensures ∙ c.if-not-has.true)

pub returns-then-not-same : goal.returns-then-not-same
returns-then-not-same c =
    let there : has_field version_name (fields_in c.args.text.now c.args.f) ≡ true = sym c.has.ensures ∙ c.if-not-has.false in
    let value : c.same.result ≡ same (value_of version_name (fields_in c.args.text.now c.args.f)) (octets "4") = c.same.ensures ∙ ap (λ (l : List ℕ). same l (octets "4")) c.value_of.ensures in
    other_version _ (there) (sym (value) ∙ c.if-not-same.true)

pub returns : goal.returns
returns c =
    let there : has_field version_name (fields_in c.args.text.now c.args.f) ≡ true = sym c.has.ensures ∙ c.if-not-has.false in
    let value : c.same.result ≡ same (value_of version_name (fields_in c.args.text.now c.args.f)) (octets "4") = c.same.ensures ∙ ap (λ (l : List ℕ). same l (octets "4")) c.value_of.ensures in
    our_version _ (there) (sym (value) ∙ c.if-not-same.false)
