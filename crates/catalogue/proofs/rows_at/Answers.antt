-- `catalogue::rows_at`: the ten, the three, and none behind them.
use Rattle.catalogue.proofs.Laws.{rows_ten, rows_three, rows_past}
use Rattle.catalogue.proofs.rows_at.Goals as goal

pub returns-then-i-lt10 : goal.returns-then-i-lt10
returns-then-i-lt10 c =
    let a = c.args in
    rows_ten a.c a.p a.k c.if-i-lt10.true

pub returns-then-i-lt13 : goal.returns-then-i-lt13
returns-then-i-lt13 c =
    let a = c.args in
    rows_three a.c a.p a.k c.if-i-lt10.false c.if-i-lt13.true

pub returns : goal.returns
returns c =
    let a = c.args in
    rows_past a.c a.p a.k c.if-i-lt13.false
