-- The line that is shown for a place.
use Rattle.std.specs.Prelude.{ℕ, ◌≤◌, List, true, false, not, ltb, length}
use Rattle.scan.specs.declared.Place.{Place}
use Rattle.scan.specs.declared.Class.TheVariants.{LineByte}
use Rattle.scan.specs.Scan.{in_class, is_eol, run_end_at, Runs}
use Rattle.places.specs.Places.{line_start, LineBegins}

abbrev pub nowhere : Place
nowhere = record { from = 0; to = 0 }

-- from the begin of the place's line up to the next LF or CR, or the source's end; nothing where the source is too long or has no such place
unfoldable pub line_of : List ℕ → ℕ → Place
line_of s at =
    elim (ltb 65536 (length s)) [
      | true ↦ nowhere
      | false ↦ elim (ltb (length s) at) [
        | true ↦ nowhere
        | false ↦ record { from = line_start s at; to = run_end_at (in_class LineByte) s (line_start s at) }
      ]
    ]

-- The line that is shown for an index, without a scan: it begins where the index's line begins, no byte of it is LF or CR, and the next one is, or the source ends there.
pub record LineShown (s : List ℕ) (at : ℕ) (p : Place) : Type 0 where
  pub begins : LineBegins s at p.from
  pub runs : Runs (λ c. not (is_eol c)) s p.from p.to
