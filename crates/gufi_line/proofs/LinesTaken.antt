-- What is read on, with one line more.
use Rattle.std.proofs.Common.{◌≡◌, ℕ, ◌+◌, List, [], ◌∷◌, length, reverse, refl, sym, ap, subst, ◌∙◌}
use Rattle.std.specs.Prelude.{Ok, Err}
use Rattle.gufi_base.specs.declared.record.Line.{Line}
use Rattle.gufi_base.specs.Paths.{Components}
use Rattle.gufi_line.specs.declared.fault.TraceKind.{TraceKind}
use Rattle.gufi_line.specs.declared.lines.Progress.{Progress}
use Rattle.gufi_line.specs.LineText.{read_line, read_lines, fault_at}
use Rattle.gufi_line.specs.Lines.{line_of}
use Rattle.gufi_line.specs.Progress.{root_behind, lines_from}
use Rattle.gufi_line.proofs.LineIs.{line_is}

abbrev pub progress_of : Components → List Line → Progress
progress_of root lines = record { root = root; lines = lines }

-- one line
pub line_had : (delim : ℕ) (known : Progress) (text : List ℕ) (more : List (List ℕ)) (line : Line) → read_line delim (root_behind known.lines known.root delim (text ∷ [])) known.lines text ≡ Ok line
    → lines_from delim known (text ∷ more) ≡ lines_from delim (progress_of (root_behind known.lines known.root delim (text ∷ [])) (line ∷ known.lines)) more
unfolding read_lines
line_had delim known text more line e = by known.lines e
  where
    by : (earlier : List Line) → read_line delim (root_behind earlier known.root delim (text ∷ [])) earlier text ≡ Ok line
        → read_lines delim (root_behind earlier known.root delim (text ∷ more)) earlier (text ∷ more) ≡ read_lines delim (root_behind earlier known.root delim (text ∷ [])) (line ∷ earlier) more
    by [] e = rw e refl
    by (first ∷ earlier) e = rw e refl

pub line_refused : (delim : ℕ) (known : Progress) (text : List ℕ) (more : List (List ℕ)) (kind : TraceKind) (n : ℕ) → read_line delim (root_behind known.lines known.root delim (text ∷ [])) known.lines text ≡ Err kind → n ≡ length known.lines
    → lines_from delim known (text ∷ more) ≡ Err (fault_at (n + 1) kind)
unfolding read_lines
line_refused delim known text more kind n e is = by known.lines e is
  where
    by : (earlier : List Line) → read_line delim (root_behind earlier known.root delim (text ∷ [])) earlier text ≡ Err kind → n ≡ length earlier
        → read_lines delim (root_behind earlier known.root delim (text ∷ more)) earlier (text ∷ more) ≡ Err (fault_at (n + 1) kind)
    by [] e is = rw (e, is) refl
    by (first ∷ earlier) e is = rw (e, is) refl

pub line_taken : (delim : ℕ) (known settled : Progress) (text : List ℕ) (line : Line) (lines : List Line) → settled ≡ progress_of (root_behind known.lines known.root delim (text ∷ [])) known.lines
    → line_of delim settled.root settled.lines text ≡ Ok line → lines ≡ line ∷ settled.lines → (more : List (List ℕ)) → lines_from delim known (text ∷ more) ≡ lines_from delim (progress_of settled.root lines) more
line_taken delim known settled text line lines is read had more =
    let root : Components = root_behind known.lines known.root delim (text ∷ []) in
    let given = line_is delim root known.lines text ∙ subst (λ (k : Progress). line_of delim k.root k.lines text ≡ Ok line) is read in
    line_had delim known text more line given
    ∙ ap (λ (ls : List Line). lines_from delim (progress_of root ls) more) (sym (had ∙ ap (λ (k : Progress). line ∷ k.lines) is))
    ∙ ap (λ (k : Progress). lines_from delim (progress_of k.root lines) more) (sym is)

pub line_stops : (delim : ℕ) (known settled : Progress) (text : List ℕ) (kind : TraceKind) (n : ℕ) → settled ≡ progress_of (root_behind known.lines known.root delim (text ∷ [])) known.lines
    → line_of delim settled.root settled.lines text ≡ Err kind → n ≡ length settled.lines → (more : List (List ℕ)) → lines_from delim known (text ∷ more) ≡ Err (fault_at (n + 1) kind)
line_stops delim known settled text kind n is read count more =
    let root : Components = root_behind known.lines known.root delim (text ∷ []) in
    let given = line_is delim root known.lines text ∙ subst (λ (k : Progress). line_of delim k.root k.lines text ≡ Err kind) is read in
    line_refused delim known text more kind n given (count ∙ ap (λ (k : Progress). length k.lines) is)

pub lines_none : (delim : ℕ) (known : Progress) → lines_from delim known [] ≡ Ok (reverse known.lines)
unfolding read_lines
lines_none delim known = refl
