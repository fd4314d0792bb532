-- The lines of a stream that comes in pieces.
use Rattle.std.proofs.Common.{◌≡◌, ℕ, List, [], ◌∷◌, ◌++◌, refl, ap, ◌∙◌}
use Rattle.gufi_base.specs.Basics.{split, all_but_last, last_of}
use Rattle.gufi_base.proofs.Cuts.{split_some, split_append, all_but_last-append, last_of-append}
use Rattle.gufi_trace.specs.TraceText.{whole_lines, cut_line}

front_some : (xs qs : List (List ℕ)) → (qs ≡ [] → ⊥) → all_but_last (xs ++ qs) ≡ xs ++ all_but_last qs
front_some xs [] some = absurd (some refl)
front_some xs (q ∷ qs) some = all_but_last-append xs q qs

last_some : (xs qs : List (List ℕ)) → (qs ≡ [] → ⊥) → last_of [] (xs ++ qs) ≡ last_of [] qs
last_some xs [] some = absurd (some refl)
last_some xs (q ∷ qs) some = last_of-append [] xs q qs

pub whole_append : (stream piece : List ℕ) → whole_lines (stream ++ piece) ≡ whole_lines stream ++ whole_lines (cut_line stream ++ piece)
whole_append stream piece = ap all_but_last (split_append 10 stream piece) ∙ front_some (whole_lines stream) (split 10 (cut_line stream ++ piece)) (split_some 10 (cut_line stream ++ piece))

pub cut_append : (stream piece : List ℕ) → cut_line (stream ++ piece) ≡ cut_line (cut_line stream ++ piece)
cut_append stream piece = ap (last_of []) (split_append 10 stream piece) ∙ last_some (whole_lines stream) (split 10 (cut_line stream ++ piece)) (split_some 10 (cut_line stream ++ piece))
