-- Each test is the definition's, of the names that the spans stand for. Assumes nothing.
use mathlib.Core.Path.{sym}
use native.Mathlib.Omega.{arith}
use Rattle.names.proofs.NameLaws.{names_count, list_is}
use Rattle.names.proofs.rules.is_list.Goals as goal

pub returns : goal.returns
returns c =
    rw (
      c.is_doubled-single.ensures,
      c.same_name-first.ensures,
      c.name.ensures,
      c.same_name-second.ensures,
      c.name-2.ensures,
      c.are_fields-there.ensures,
      c.among-version.ensures,
      c.among-uri.ensures,
      c.among-injection.ensures,
      c.among-itself.ensures,
    )
    (sym (list_is _ _ (omega (arith, names_count c.args.list.now c.args.n))))
