-- The lines of directories and their entries, of which is kept how many lines were before each.
use Rattle.std.specs.Prelude.{◌≡◌, ℕ, ◌+◌, ◌^◌, Bool, false, not, ◌&&◌, List, [], ◌∷◌, ◌++◌, length, map, count_by, nat_lt, Option, Some, None, IsTrue, if◌then◌else◌}
use Rattle.std.specs.List.{list_all, flat_map}
use Rattle.std.specs.List.Sorted.{IsPermutation}
use Rattle.std.specs.declared.cmp.Ordering.{Ordering}
use Rattle.std.specs.Ordering.{nat_cmp}
use Rattle.gufi_base.specs.declared.record.Line.{Line}
use Rattle.gufi_base.specs.declared.record.Row.{Row}
use Rattle.gufi_base.specs.Basics.{ascends, sort_by}
use Rattle.gufi_base.specs.Kinds.{is_dir}
use Rattle.gufi_base.specs.Paths.{Components, is_child_of}
use Rattle.gufi_tree.specs.declared.closed.Begun.{Begun}
use Rattle.gufi_tree.specs.Packs.{Placed}
use Rattle.gufi_tree.specs.declared.tree.Entry.{Entry}
use Rattle.gufi_tree.specs.declared.tree.Stored.{Stored}
use Rattle.gufi_tree.specs.Tree.{Directory, entry_cmp, own_rows, is_kinded}
use Rattle.gufi_tree.specs.Build.{is_dir_line}
use Rattle.gufi_tree.specs.Shape.{are_distinct}

-- of lines, the newest first: whether a path is that of the last directory and one name
abbrev pub stanza_holds : List Line → Components → Bool
stanza_holds [] path = false
stanza_holds (line ∷ earlier) path = if is_dir_line line then is_child_of line.path path else stanza_holds earlier path

-- the order of lines by their numbers
abbrev pub line_cmp : Line → Line → Ordering
line_cmp a b = nat_cmp a.number b.number

-- rows as lines, each behind so many others
abbrev pub zip_lines : List ℕ → List Row → List Line
zip_lines [] rows = []
zip_lines (place ∷ places) [] = []
zip_lines (place ∷ places) (row ∷ rows) = record { number = place + 1; path = row.path; rec = row.rec } ∷ zip_lines places rows

-- the lines of the stanza that has begun
abbrev pub placed_line : Components → Placed → Line
placed_line path placed = record { number = placed.place + 1; path = path ++ placed.entry.name ∷ []; rec = placed.entry.rec }

abbrev pub begun_lines : Option Begun → List Placed → List Line
begun_lines None entries = []
begun_lines (Some b) entries = record { number = b.place + 1; path = b.path; rec = b.rec } ∷ map (placed_line b.path) entries

-- all lines in order of coming
abbrev pub lines_in : List Directory → List ℕ → Option Begun → List Placed → List Line
lines_in dirs places begun entries = sort_by line_cmp (zip_lines places (flat_map own_rows dirs)) ++ begun_lines begun entries

-- lines numbered from a number on
abbrev pub AreNumbered : ℕ → List Line → Type 0
AreNumbered number [] = number ≡ number
AreNumbered number (line ∷ lines) = (line.number ≡ number) × AreNumbered (number + 1) lines

-- places that have a number of 32 bits
abbrev pub are_few : List ℕ → Bool
are_few places = list_all (λ place. nat_lt (place + 1) (2 ^ 32)) places

-- the stanza that has begun is a directory's, and its entries are none
abbrev pub is_begun_kinded : Option Begun → List Placed → Bool
is_begun_kinded None entries = list_all (λ placed. not (is_dir placed.entry.rec.meta.kind)) entries
is_begun_kinded (Some b) entries = is_dir b.rec.meta.kind && list_all (λ placed. not (is_dir placed.entry.rec.meta.kind)) entries

-- directories whose entries stand in name order, unless two have one name, and the places of their lines
pub record AreClosed (dirs : List Directory) (places : List ℕ) (distinct : Bool) : Type 0 where
  pub whole : length places ≡ length (flat_map own_rows dirs)
  pub kinds : IsTrue (list_all is_kinded dirs)
  pub apart : IsTrue distinct → IsTrue (are_distinct dirs)

-- the same, where these are all the lines
pub record IsWhole (lines : List Line) (dirs : List Directory) (places : List ℕ) (distinct : Bool) : Type 0 where
  pub is : sort_by line_cmp (zip_lines places (flat_map own_rows dirs)) ≡ lines
  pub numbered : AreNumbered 1 lines
  pub closed : AreClosed dirs places distinct

-- what is kept of lines
pub record AreKept (dirs : List Directory) (places : List ℕ) (distinct : Bool) (begun : Option Begun) (entries : List Placed) (count dir_count : ℕ) : Type 0 where
  pub closed : AreClosed dirs places distinct
  pub kinds : IsTrue (is_begun_kinded begun entries)
  pub numbered : AreNumbered 1 (lines_in dirs places begun entries)
  pub counted : length (lines_in dirs places begun entries) ≡ count
  pub dir_lines : count_by is_dir_line (lines_in dirs places begun entries) ≡ dir_count
  pub empty : begun ≡ None → lines_in dirs places begun entries ≡ []

-- One stanza more has ended: its entries stand in another order behind its directory.
pub record HasTaken (old new : List Directory) (before after : List ℕ) (was is : Bool) (b : Begun) (entries : List Placed) : Type 0 where
  pub own : List Placed
  pub dir : Directory
  pub moved : IsPermutation entries own
  pub dirs : new ≡ old ++ dir ∷ []
  pub path : dir.path ≡ b.path
  pub rec : dir.rec ≡ b.rec
  pub taken : dir.entries ≡ map (λ placed. placed.entry) own
  pub places : after ≡ before ++ b.place ∷ map (λ placed. placed.place) own
  pub before_apart : IsTrue is → IsTrue was
  pub apart : IsTrue is → IsTrue (ascends entry_cmp dir.entries)

-- the same, where a stanza has begun
pub record HasEnded (old new : List Directory) (before after : List ℕ) (was is : Bool) (begun : Option Begun) (entries : List Placed) : Type 0 where
  pub none : begun ≡ None → (new ≡ old) × (after ≡ before) × (is ≡ was)
  pub some : (b : Begun) → begun ≡ Some b → HasTaken old new before after was is b entries

-- a directory with one entry more
pub record HasOneMore (old new : Stored) (e : Entry) : Type 0 where
  pub path : new.path ≡ old.path
  pub rec : new.rec ≡ old.rec
  pub entries : new.entries.items ≡ old.entries.items ++ e ∷ []
