-- The judgement by the tests that the code makes. Assumes nothing.
use mathlib.Core.Bool.{Bool, true, false}
use mathlib.Core.List.{List}
use mathlib.Core.Option.{Option, none, some}
use mathlib.Core.Path.{◌≡◌, refl, sym, ap, ◌∙◌}
use Prim.Native.Nat.{ℕ, ◌≤◌, ◌<◌}
use native.Mathlib.Omega.{arith}
use borrow.Author.Tests.{ne_eqb, le-leb, lt-leb}
use lib.ListN.{length}
use Rattle.std.specs.Prelude.{Err}
use Rattle.std.proofs.lemmas.Option.{same_Some}
use Rattle.octets.specs.Choice.{pick}
use Rattle.stream.specs.Bytes.{same}
use Rattle.stream.specs.Fields.{value_of}
use Rattle.stream.specs.Head.{head_of, text_rules, caller_rules, trusted_by, head_fault, head_key, block_key, injection_time}
use Rattle.stream.specs.Ring.{found, is_found, number_of}
use Rattle.stream.specs.Rule.{first_broken}
use Rattle.stream.specs.Signatures.{uri_name}
use Rattle.stream.specs.Terms.{Terms}
use Rattle.stream.proofs.RulesHold.{broken_first, kept_first}
use Rattle.fields.specs.Table.{fields_in}
use Rattle.params.specs.declared.bsigs.Bsigs.{Bsigs}
use Rattle.params.specs.declared.injection.Injection.{Injection}
use Rattle.params.proofs.Answers.{injection_is, bsigs_is, sig0_key}
use Rattle.head.specs.Reading.{Reads, Says}
use Rattle.head.specs.declared.whole.HeadRead.{HeadRead}
use Rattle.head.proofs.ContentLaws.{rules_kept, injection_good, bsigs_good}
use Rattle.judging.specs.Judgement.{judged, none_asked, asked, head_judged}

-- ---- a fault of the text goes before the caller's rules

fault_first : (terms : Terms) (text : List ℕ) → (first_broken (text_rules text (head_of text)) ≡ 0 → ⊥) → head_fault terms text ≡ first_broken (text_rules text (head_of text))
unfolding head_fault
fault_first terms text h = broken_first (text_rules text (head_of text)) (caller_rules terms (head_of text)) h

-- ---- the rules of trust, by what was found: o is the record, if the test s of the two keys holds

never : (k : ℕ) → some k ≡ none → ⊥
never k h = let z : ◌≡◌ {A = ℕ} 0 1 = cc in omega arith

abbrev trust_fault : Bool → Option ℕ → ℕ
trust_fault s o = pick (is_found o) (pick s 0 12) 12

untrusted : (s : Bool) (o : Option ℕ) → pick s o none ≡ none → trust_fault s o ≡ 12
untrusted true none h = refl
untrusted true (some i) h = absurd (never i h)
untrusted false none h = refl
untrusted false (some i) h = refl

is_trusted : (s : Bool) (o : Option ℕ) (k : ℕ) → pick s o none ≡ some k → (trust_fault s o ≡ 0) × (number_of o ≡ k)
is_trusted true none k h = absurd (never k (sym h))
is_trusted true (some i) k h = (refl, cc)
is_trusted false o k h = absurd (never k (sym h))

module _ (terms : Terms) (text question : List ℕ) where
  pub judged_broken : (n : ℕ) → Reads text (Err n) → judged (none_asked n text) question ≡ head_judged terms text question
  unfolding head_judged
  judged_broken n x =
      let e : head_fault terms text ≡ n = fault_first terms text (λ q. x.1 (x.0 ∙ q)) ∙ sym x.0 in
      rw (e, ne_eqb n 0 x.1)

  module _ (r : HeadRead) (x : Says text r) where
    abbrev same_keys : Bool
    same_keys = same r.signed.bsigs.key r.signed.sig0.key

    abbrev record_found : Option ℕ
    record_found = found r.signed.sig0.key r.signed.injection.time terms.ring

    block_key_lem : r.signed.bsigs.key ≡ block_key (head_of text)
    unfolding block_key
    block_key_lem = ap (λ (b : Bsigs). b.key) (same_Some _ _ (x.bsigs ∙ bsigs_is _ (bsigs_good text r x)))

    head_key_lem : r.signed.sig0.key ≡ head_key (head_of text)
    unfolding head_key
    head_key_lem = sig0_key x.sig0

    time : r.signed.injection.time ≡ injection_time (head_of text)
    unfolding injection_time
    time = ap (λ (i : Injection). i.time) (same_Some _ _ (x.injection ∙ injection_is _ (injection_good text r x)))

    found_is : record_found ≡ trusted_by terms.ring (head_of text)
    unfolding trusted_by
    found_is = rw (head_key_lem, time)

    -- the URI as it was read
    abbrev same_uri : Bool
    same_uri = same (value_of uri_name (fields_in text r.fields)) terms.uri

    fault_is : head_fault terms text ≡ pick same_uri (trust_fault same_keys record_found) 16
    unfolding head_fault caller_rules first_broken
    fault_is =
        rw (found_is, block_key_lem, head_key_lem, x.fields)
        (kept_first (text_rules text (head_of text)) (caller_rules terms (head_of text)) (rules_kept text r x))

    pub judged_other : same_uri ≡ false → judged (none_asked 16 text) question ≡ head_judged terms text question
    unfolding head_judged
    judged_other u = rw (fault_is ∙ ap (λ (t : Bool). pick t (trust_fault same_keys record_found) 16) u)

    -- the show is the one that was asked for
    module _ (u : same_uri ≡ true) where
      trust_is : head_fault terms text ≡ trust_fault same_keys record_found
      trust_is = fault_is ∙ ap (λ (t : Bool). pick t (trust_fault same_keys record_found) 16) u

      pub judged_untrusted : none ≡ pick same_keys record_found none → judged (none_asked 12 text) question ≡ head_judged terms text question
      unfolding head_judged
      judged_untrusted h = rw (trust_is ∙ untrusted same_keys record_found (sym h))

      -- record k is trusted
      module _ (k : ℕ) (h : some k ≡ pick same_keys record_found none) where
        abbrev trusts : (trust_fault same_keys record_found ≡ 0) × (number_of record_found ≡ k)
        trusts = is_trusted same_keys record_found k (sym h)

        pub judged_short : length question < length text → judged (none_asked 3 text) question ≡ head_judged terms text question
        unfolding head_judged
        judged_short l = rw (trust_is ∙ trusts.0, lt-leb (length text) (length question) l)

        pub judged_asked : length text ≤ length question → asked k (head_of text) question ≡ head_judged terms text question
        unfolding head_judged
        judged_asked l = rw (trust_is ∙ trusts.0, le-leb (length text) (length question) l, ← found_is, trusts.1)
