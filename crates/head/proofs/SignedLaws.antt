-- The fields that hold parameters, each by what it was read as. Assumes nothing.
use mathlib.Core.Bool.{Bool, true, false, ◌&&◌}
use mathlib.Core.List.{List}
use mathlib.Core.Path.{◌≡◌, sym, ◌∙◌}
use Prim.Native.Nat.{ℕ}
use lib.Dec.{leb}
use lib.ListN.{length}
use Rattle.std.specs.Prelude.{Some, None}
use Rattle.stream.specs.Fields.{value_of}
use Rattle.stream.specs.Limits.{name_limit}
use Rattle.stream.specs.Lines.{Field}
use Rattle.stream.specs.Signatures.{injection_scan, is_injection, bsigs_scan, is_bsigs, sig0_scan, is_sig0, names_text, split_names, is_name_list, injection_name, bsigs_name, sig0_name}
use Rattle.stream.specs.Template.{Scanned}
use Rattle.places.specs.Place.{part_of}
use Rattle.params.specs.BlockSigs.{bsigs_of}
use Rattle.params.specs.HeadSig.{ReadsSig0}
use Rattle.params.specs.Injection.{injection_of}
use Rattle.params.proofs.Answers.{sig0_says, sig0_good, sig0_names}
use Rattle.params.proofs.Options.{picked, unpicked}
use Rattle.params.specs.declared.bsigs.Bsigs.{Bsigs}
use Rattle.params.specs.declared.injection.Injection.{Injection}
use Rattle.params.specs.declared.sig0.Sig0.{Sig0}
use Rattle.names.specs.NameList.{names_in, ReadsNames}
use Rattle.names.specs.declared.reading.Names.{Names}
use Rattle.names.proofs.Answers.{names_say, names_are}
use Rattle.head.specs.Steps.{are_signed, ReadsSigned, ReadsList}

too_long : (fs : List Field) (ns : List (List ℕ)) → leb (length ns) name_limit ≡ false → is_name_list fs ns ≡ false
unfolding is_name_list
too_long fs ns e = rw e

module _ (text : List ℕ) (fs : List Field) where
  abbrev injection : Scanned
  injection = injection_scan (value_of injection_name fs)

  abbrev bsigs : Scanned
  bsigs = bsigs_scan (value_of bsigs_name fs)

  abbrev sig0 : Scanned
  sig0 = sig0_scan (value_of sig0_name fs)

  pub no_injection : None ≡ injection_of injection → ReadsSigned text fs None
  unfolding are_signed injection_of
  no_injection p = record { good = rw (unpicked (is_injection injection) _ p); says = tt }

  module _ {i : Injection} (p : Some i ≡ injection_of injection) where
    injection_there : is_injection injection ≡ true
    unfolding injection_of
    injection_there = (picked (is_injection injection) _ p).0

    pub no_bsigs : None ≡ bsigs_of bsigs → ReadsSigned text fs None
    unfolding are_signed bsigs_of
    no_bsigs q = record { good = rw (injection_there, unpicked (is_bsigs bsigs) _ q); says = tt }

    module _ {b : Bsigs} (q : Some b ≡ bsigs_of bsigs) where
      bsigs_there : is_bsigs bsigs ≡ true
      unfolding bsigs_of
      bsigs_there = (picked (is_bsigs bsigs) _ q).0

      pub no_sig0 : ReadsSig0 text sig0 None → ReadsSigned text fs None
      unfolding are_signed
      no_sig0 x = record { good = rw (injection_there, bsigs_there, ← sig0_says x); says = tt }

      module _ {s : Sig0} (x : ReadsSig0 text sig0 (Some s)) where
        good_by : are_signed fs injection bsigs sig0 ≡ is_sig0 sig0 && is_name_list fs (split_names (names_text sig0))
        unfolding are_signed
        good_by = rw (injection_there, bsigs_there)

        pub no_names : ReadsList fs sig0 None → ReadsSigned text fs None
        no_names y = record { good = y.good ∙ sym good_by; says = tt }

        pub all_signed : {n : Names} → ReadsList fs sig0 (Some n) → ReadsSigned text fs (Some (record { injection = i; bsigs = b; sig0 = s; names = n }))
        all_signed y = record { good = y.good ∙ sym good_by; says = record { injection = p; bsigs = q; sig0 = x; names = y.names } }

-- ---- the list, by the tests that the code makes

module _ (text : List ℕ) (fs : List Field) (scan : Scanned) where
  pub list_without : ReadsSig0 text scan None → ReadsList fs scan None
  list_without x = record { good = rw (← sig0_says x); names = tt }

  module _ {s : Sig0} (x : ReadsSig0 text scan (Some s)) {list : List ℕ} (e : list ≡ part_of text s.names_start s.names_end) where
    list_is : list ≡ names_text scan
    list_is = e ∙ sig0_names x

    list_by : is_sig0 scan && is_name_list fs (split_names (names_text scan)) ≡ is_name_list fs (split_names list)
    list_by = rw (sig0_good x, list_is)

    pub unread : ReadsNames list None → ReadsList fs scan None
    unread y = record { good = sym (list_by ∙ too_long fs (split_names list) (sym (names_say None y))); names = tt }

    module _ {n : Names} (y : ReadsNames list (Some n)) {ok : Bool} (o : ok ≡ is_name_list fs (names_in list n)) where
      pub not_listed : ok ≡ false → ReadsList fs scan None
      not_listed h = record { good = rw (list_by, ← names_are n y, ← o, h); names = tt }

      pub listed : ok ≡ true → ReadsList fs scan (Some n)
      listed h = record { good = rw (list_by, ← names_are n y, ← o, h); names = rw list_is at (names_are n y) }
