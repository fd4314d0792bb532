-- Rows in borrowed parts.
use Rattle.std.proofs.Common.{◌≡◌, ℕ, sym, ap}
use Rattle.gufi_base.specs.declared.record.Row.{Row}
use Rattle.gufi_base.specs.declared.record.RowRef.{RowRef}
use Rattle.gufi_base.specs.Rows.{Stands}
use Rattle.gufi_base.specs.Paths.{base_name}
use Rattle.gufi_base.proofs.CutParts.{path_text-parts}
use Rattle.gufi_select.specs.Columns.{Seen, Select, seen_row, holds_in, select_holds}
use Rattle.gufi_select.specs.Parts.{seen_parts}

pub same_seen : (ref : RowRef) (row : Row) (depth : ℕ) → Stands ref row → seen_parts ref depth ≡ seen_row row depth
same_seen ref row depth stands =
    rw (stands.stem, stands.base, stands.meta, stands.link, stands.xattrs)
    (ap (λ path. let s : Seen = record { path = path; name = base_name row.path; meta = row.rec.meta; link = row.rec.link; xattrs = row.rec.xattrs; depth = depth } in s) (sym (path_text-parts row.path)))

pub seen_of_parts : (select : Select) (ref : RowRef) (row : Row) (depth : ℕ) → Stands ref row → holds_in select (seen_parts ref depth) ≡ select_holds select row depth
seen_of_parts select ref row depth stands = ap (holds_in select) (same_seen ref row depth stands)
