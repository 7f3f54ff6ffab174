-- The listed names, and the rule of the list. Assumes nothing.
use mathlib.Core.Bool.{◌&&◌, not}
use mathlib.Core.List.{List, [], ◌∷◌}
use mathlib.Core.Path.{◌≡◌, refl, ◌∙◌}
use Prim.Native.Nat.{ℕ, zero, suc, ◌≤◌, min}
use borrow.Author.Tests.{le-leb}
use lib.ListN.{length, get_or, length-map, length-take}
use Rattle.stream.specs.Bytes.{same_name}
use Rattle.stream.specs.Fields.{among, is_doubled}
use Rattle.stream.specs.Limits.{name_limit}
use Rattle.stream.specs.Lines.{Field}
use Rattle.stream.specs.Signatures.{are_fields, is_name_list, listed_fields, response_status_name, created_name, version_name, uri_name, injection_name, sig0_name}
use Rattle.stream.specs.Template.{nth}
use Rattle.names.specs.NameList.{span_bytes, used_spans, names_in}
use Rattle.names.specs.declared.reading.Names.{Names}

pub names_count : (l : List ℕ) (n : Names) → length (names_in l n) ≡ min (min n.count name_limit) (length n.spans)
unfolding names_in
names_count l n = length-map (used_spans n) (span_bytes l) ∙ length-take (min n.count name_limit) n.spans

-- ---- the rule of the list

nth_is : (k : ℕ) (ns : List (List ℕ)) → nth k ns ≡ get_or ns k []
nth_is zero [] = refl
nth_is (suc k) [] = refl
nth_is zero (n ∷ ns) = refl
nth_is (suc k) (n ∷ ns) = nth_is k ns

-- with no more names than a list may have
pub list_is : (fs : List Field) (ns : List (List ℕ)) → length ns ≤ name_limit
    → is_name_list fs ns
    ≡ not (is_doubled ns)
    && (same_name (get_or ns 0 []) response_status_name
    && (same_name (get_or ns 1 []) created_name
    && (are_fields fs (listed_fields ns) && (among version_name ns && (among uri_name ns && (among injection_name ns && not (among sig0_name ns)))))))
unfolding is_name_list
list_is fs ns h = rw (le-leb (length ns) name_limit h, nth_is 0 ns, nth_is 1 ns)
