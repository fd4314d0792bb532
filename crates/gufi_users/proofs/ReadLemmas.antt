-- Reading line by line.
use Rattle.std.proofs.Common.{◌≡◌, ℕ, ◌+◌, false, true, List, [], ◌∷◌, ◌++◌, refl, sym, ap, ◌∙◌}
use Rattle.std.specs.Prelude.{Result, Ok, Err, Vec, map, bytes_eq, ◌||◌}
use Rattle.std.specs.List.{list_any}
use Rattle.std.specs.declared.alloc.Global.{Global}
use Rattle.std.proofs.lemmas.List.{map-append}
use Rattle.gufi_base.specs.Basics.{result_map_err, ◌>>=◌}
use Rattle.gufi_users.specs.declared.fault.UserKind.{UserKind}
use Rattle.gufi_users.specs.declared.fault.UserKind.TheVariants.{DoubleName}
use Rattle.gufi_users.specs.declared.fault.UserError.{UserError}
use Rattle.gufi_users.specs.Users.{has_name, new_row, with_line, read_rows}

pub read_rows_done : {A : Type 0} (name_of : A → List ℕ) (read : List ℕ → Result A UserKind) (n : ℕ) (rows : List A) → read_rows name_of read n rows [] ≡ Ok rows
unfolding read_rows
read_rows_done name_of read n rows = refl

pub read_rows_more : {A : Type 0} (name_of : A → List ℕ) (read : List ℕ → Result A UserKind) (n : ℕ) (earlier rows : List A) (text : List ℕ) (rest : List (List ℕ))
    → with_line name_of read n earlier text ≡ Ok rows → read_rows name_of read n earlier (text ∷ rest) ≡ read_rows name_of read (n + 1) rows rest
unfolding read_rows
read_rows_more name_of read n earlier rows text rest one = rw one refl

pub read_rows_stops : {A : Type 0} (name_of : A → List ℕ) (read : List ℕ → Result A UserKind) (n : ℕ) (earlier : List A) (text : List ℕ) (rest : List (List ℕ)) (e : UserError)
    → with_line name_of read n earlier text ≡ Err e → read_rows name_of read n earlier (text ∷ rest) ≡ Err e
unfolding read_rows
read_rows_stops name_of read n earlier text rest e one = rw one refl

-- a line that adds nothing stops what would follow
pub line_refused : {A B : Type 0} (line : Result A UserKind) (next : A → Result B UserKind) (fault : UserKind → UserError) (e : UserError)
    → result_map_err fault line ≡ Err e → result_map_err fault (line >>= next) ≡ Err e
line_refused (Ok x) next fault e is = absurd (let n : Ok x ≡ Err e = is in cc)
line_refused (Err kind) next fault e is = cc

module _ {T A : Type 0} (name_of : A → List ℕ) (entry : Vec ℕ Global × T → A) (named : (row : Vec ℕ Global × T) → name_of (entry row) ≡ row.0.items) where
  -- a name stands among the rows of a file where it stands among those of the table
  has_row : (name : List ℕ) (rows : List (Vec ℕ Global × T)) → has_name name_of name (map entry rows) ≡ list_any (λ other. bytes_eq name other.0.items) rows
  has_row name [] = refl
  has_row name (row ∷ rows) = rw (named row) (ap (λ b. bytes_eq name row.0.items || b) (has_row name rows))

  has_own : (row : Vec ℕ Global × T) (rows : List (Vec ℕ Global × T)) → has_name name_of (name_of (entry row)) (map entry rows) ≡ list_any (λ other. bytes_eq row.0.items other.0.items) rows
  has_own row rows = rw (named row) (has_row row.0.items rows)

  pub new_added : (row : Vec ℕ Global × T) (rows : List (Vec ℕ Global × T)) → list_any (λ other. bytes_eq row.0.items other.0.items) rows ≡ false → new_row name_of (map entry rows) (entry row) ≡ Ok (map entry (rows ++ row ∷ []))
  new_added row rows new = rw (has_own row rows ∙ new) (ap Ok (sym (map-append entry rows (row ∷ []))))

  pub old_refused : (row : Vec ℕ Global × T) (rows : List (Vec ℕ Global × T)) → list_any (λ other. bytes_eq row.0.items other.0.items) rows ≡ true → new_row name_of (map entry rows) (entry row) ≡ Err DoubleName
  old_refused row rows there = rw (has_own row rows ∙ there) refl
