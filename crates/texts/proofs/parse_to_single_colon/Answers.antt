-- `texts::parse_to_single_colon`: the scan, then trimming.
use Rattle.std.proofs.lemmas.Result.{err_from_is_err_and}
use Rattle.texts.proofs.Laws.{colon_upto, colon_none}
use Rattle.texts.proofs.parse_to_single_colon.Goals as goal

pub returns-in_err-to-clause-value : goal.returns-in_err-to-clause-value
returns-in_err-to-clause-value c =
    let p = err_from_is_err_and c.from_residual.result c.from_residual.ensures.1 in
    rw (p.1, p.2) (colon_none _ _ _ c.single_colon.ensures.value _ c.in_err-to.was)

pub returns-clause-value : goal.returns-clause-value
returns-clause-value c = colon_upto _ _ _ c.single_colon.ensures.value _ _ _ c.in_ok-to.was c.trim.ensures.value
