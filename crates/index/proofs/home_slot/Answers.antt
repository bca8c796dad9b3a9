-- `index::home_slot`.
use Rattle.std.proofs.Common.{ℕ, ◌%◌, ap, mod-lt}
use Rattle.index.proofs.home_slot.Goals as goal

pub returns : goal.returns
returns c =
    record {
      is = ap (λ (h : ℕ). h % c.args.m) c.hash_part.ensures;
      inside = mod-lt _ c.requires;
    }
