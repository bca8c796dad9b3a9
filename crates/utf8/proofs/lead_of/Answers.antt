-- `utf8::lead_of`, row by row of the table of first bytes.
use borrow.Author.Rules.{rules}
use native.Mathlib.Omega.{arith}
use Rattle.utf8.proofs.Utf8.{one, none_low, two, three_E0, three_ED, three, four_F0, four, four_F4, none_high}
use Rattle.utf8.proofs.lead_of.Goals as goal

pub returns-then-a-lt128 : goal.returns-then-a-lt128
returns-then-a-lt128 c =
    record {
      value = one _ (omega arith);
      fitting = search rules;
    }

pub returns-then-a-lt194 : goal.returns-then-a-lt194
returns-then-a-lt194 c =
    record {
      value = none_low _ (omega arith) (omega arith);
      fitting = search rules;
    }

pub returns-then-a-lt224 : goal.returns-then-a-lt224
returns-then-a-lt224 c =
    record {
      value = two _ (omega arith) (omega arith);
      fitting = search rules;
    }

pub returns-then-a-eq224 : goal.returns-then-a-eq224
returns-then-a-eq224 c =
    record {
      value = three_E0 _ (omega arith);
      fitting = search rules;
    }

pub returns-then-a-eq237 : goal.returns-then-a-eq237
returns-then-a-eq237 c =
    record {
      value = three_ED _ (omega arith);
      fitting = search rules;
    }

pub returns-then-a-lt240 : goal.returns-then-a-lt240
returns-then-a-lt240 c =
    record {
      value = three _ (omega arith) (omega arith) (omega arith);
      fitting = search rules;
    }

pub returns-then-a-eq240 : goal.returns-then-a-eq240
returns-then-a-eq240 c =
    record {
      value = four_F0 _ (omega arith);
      fitting = search rules;
    }

pub returns-then-a-lt244 : goal.returns-then-a-lt244
returns-then-a-lt244 c =
    record {
      value = four _ (omega arith) (omega arith);
      fitting = search rules;
    }

pub returns-then-a-eq244 : goal.returns-then-a-eq244
returns-then-a-eq244 c =
    record {
      value = four_F4 _ (omega arith);
      fitting = search rules;
    }

pub returns : goal.returns
returns c =
    record {
      value = none_high _ (omega arith);
      fitting = search rules;
    }
