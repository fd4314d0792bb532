-- A written line, from its parts.
use Rattle.std.proofs.Common.{◌≡◌, ℕ, List, [], ◌∷◌, ◌++◌, Result, Ok, Err, refl, sym, ap, ◌∙◌, append_assoc}
use Rattle.std.specs.Prelude.{OnOk, decimal}
use Rattle.std.specs.Fmt.{signed_decimal}
use Rattle.std.specs.List.{join_with_byte}
use Rattle.std.proofs.lemmas.List.{append-nil}
use Rattle.std.proofs.lemmas.List.Concat.{flat_map-append}
use Rattle.gufi_base.specs.declared.record.Row.{Row}
use Rattle.gufi_base.specs.Paths.{Components, path_text, slashed_text}
use Rattle.gufi_base.specs.Kinds.{kind_letter}
use Rattle.gufi_acl.specs.AclTexts.{acl_text}
use Rattle.gufi_line.specs.TraceRows.{names_text, row_line, extra_fields}
use Rattle.gufi_base.specs.Xattrs.{mark}
use Rattle.gufi_line.specs.LineParts.{extras_text, rec_text}

-- what two calls append
pub append_ok : {E : Type 0} (r : Result (Unit {0}) E) (old mid new z y x : List ℕ) → mid ≡ old ++ z → OnOk r (new ≡ mid ++ y) → x ≡ z ++ y → OnOk r (new ≡ old ++ x)
append_ok (Ok u) old mid new z y x first second whole = second ∙ ap (λ (t : List ℕ). t ++ y) first ∙ append_assoc old z y ∙ ap (λ (t : List ℕ). old ++ t) (sym whole)
append_ok (Err e) old mid new z y x first second whole = second

some_text : (root path : Components) (name : List ℕ) → path_text (root ++ (path ++ name ∷ [])) ≡ slashed_text (root ++ (path ++ name ∷ []))
some_text [] [] name = refl
some_text [] (n ∷ path) name = refl
some_text (n ∷ root) path name = refl

-- the text of an entry's path
pub entry_path_text : (root path : Components) (name : List ℕ) → path_text (root ++ (path ++ name ∷ [])) ≡ slashed_text root ++ (slashed_text path ++ 47 ∷ name)
entry_path_text root path name =
    some_text root path name
    ∙ flat_map-append (λ (n : List ℕ). 47 ∷ n) root (path ++ name ∷ [])
    ∙ ap (λ (t : List ℕ). slashed_text root ++ t) (flat_map-append (λ (n : List ℕ). 47 ∷ n) path (name ∷ []) ∙ ap (λ (t : List ℕ). slashed_text path ++ 47 ∷ t) (append-nil name))

-- texts put together in one way and in another
regrouped : (delim letter : ℕ) (p i m n u g s bs bl at mt ct last end : List ℕ) → last ++ 10 ∷ [] ≡ end
    → (p ++ (delim ∷ letter ∷ delim ∷ (i ++ (delim ∷ (m ++ (delim ∷ (n ++ (delim ∷ (u ++ (delim ∷ (g ++ (delim ∷ (s ++ (delim ∷ (bs ++ (delim ∷ (bl ++ (delim ∷ (at ++ (delim ∷ (mt ++ (delim ∷ (ct ++ (delim ∷ last)))))))))))))))))))))))) ++ 10 ∷ []
    ≡ p ++ ((delim ∷ letter ∷ delim ∷ (i ++ (delim ∷ (m ++ (delim ∷ (n ++ (delim ∷ (u ++ (delim ∷ g))))))))) ++ ((delim ∷ (s ++ (delim ∷ (bs ++ (delim ∷ bl))))) ++ ((delim ∷ (at ++ (delim ∷ (mt ++ (delim ∷ ct))))) ++ (delim ∷ end))))
regrouped delim letter p i m n u g s bs bl at mt ct last end e = simp (append_assoc, e)

last_text : (delim : ℕ) (link names acl : List ℕ) → join_with_byte delim (link ∷ extra_fields names acl) ++ 10 ∷ [] ≡ link ++ (extras_text delim names acl ++ 10 ∷ [])
last_text delim link [] [] = refl
last_text delim link (b ∷ names) [] = append_assoc link (delim ∷ mark ++ b ∷ names) (10 ∷ [])
last_text delim link names (a ∷ acl) = append_assoc link (delim ∷ names_text names ++ delim ∷ acl_text (a ∷ acl)) (10 ∷ [])

-- a line is its path and what follows it
pub line_text : (delim : ℕ) (root : Components) (row : Row) → row_line delim root row ≡ path_text (root ++ row.path) ++ rec_text delim row.rec
unfolding rec_text
line_text delim root row =
    let m = row.rec.meta in
    regrouped delim (kind_letter m.kind) (path_text (root ++ row.path)) (decimal m.inode) (decimal m.mode) (decimal m.nlink) (decimal m.uid) (decimal m.gid) (decimal m.size) (decimal m.blksize) (decimal m.blocks)
    (signed_decimal m.atime) (signed_decimal m.mtime) (signed_decimal m.ctime) _ _ (last_text delim row.rec.link row.rec.xattrs row.rec.acl)
