-- `tables::row_place`: each arm is its place of the list.
use native.Mathlib.Omega.{arith}
use Rattle.tables.proofs.Laws.{place_first}
use Rattle.tables.proofs.row_place.Goals as goal

pub returns-in_default : goal.returns-in_default
returns-in_default c =
    let r = c.in_default.in_default-own.rest in
    record {
      value = place_first _ (λ e. r.0.0.0.0.1 e) (λ e. r.0.0.0.1 e) (λ e. r.0.0.1 e) (λ e. r.0.1 e) (λ e. r.1 e);
      upper_bound = omega arith;
    }
