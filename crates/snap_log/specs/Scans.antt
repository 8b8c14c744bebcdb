-- How far a text was read, byte for byte.
use Rattle.std.specs.Prelude.{ℕ, ◌+◌, ◌==◌, List, [], ◌∷◌, if◌then◌else◌}
use Rattle.snap_log.specs.declared.scan.Place.{Place}
use Rattle.snap_log.specs.declared.scan.Place.TheVariants.{Before, Within, Behind}
use Rattle.snap_log.specs.declared.scan.Scan.{Scan}

-- nothing was read
abbrev pub at_start : Scan
at_start = record { end = 0; at = 0; place = Before }

-- where a byte leads
abbrev pub scan_step : ℕ → ℕ → ℕ → Place → Scan
scan_step end at b Before = record { end = end; at = at + 1; place = if b == 123 then Within else Behind }
scan_step end at b Within = if b == 10 then record { end = at + 1; at = at + 1; place = Before } else record { end = end; at = at + 1; place = Within }
scan_step end at b Behind = record { end = end; at = at + 1; place = Behind }

-- where bytes lead
abbrev pub scanned : Scan → List ℕ → Scan
scanned s [] = s
scanned s (b ∷ bytes) = scanned (scan_step s.end s.at b s.place) bytes
