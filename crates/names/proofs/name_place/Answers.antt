-- `names::name_place`.
use Rattle.names.proofs.Laws.{place_token, place_rule, place_none}
use Rattle.names.proofs.name_place.Goals as goal

pub returns-then-table-eq1 : goal.returns-then-table-eq1
returns-then-table-eq1 c = place_token _ _ _ _ _ _ _ c.if-table-eq1.true c.rows_of.ensures c.row_place.ensures

pub returns-then-table-eq7 : goal.returns-then-table-eq7
returns-then-table-eq7 c =
    place_rule _ _ _ _ _ _ _ c.if-table-eq1.false c.if-table-eq7.true c.rows_of-then-table-eq7.ensures c.row_place-then-table-eq7.ensures

pub returns : goal.returns
returns c = place_none _ _ _ _ _ c.if-table-eq1.false c.if-table-eq7.false
