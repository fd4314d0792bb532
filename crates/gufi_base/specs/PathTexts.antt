-- How a path is kept: a slash, and then each name with a slash behind it.
use Rattle.std.specs.Prelude.{◌≡◌, ℕ, List, [], ◌∷◌, ◌++◌, drop, IsTrue}
use Rattle.std.specs.List.{flat_map, list_all}
use Rattle.gufi_base.specs.Basics.{split, all_but_last}
use Rattle.gufi_base.specs.Names.{is_name}

-- each name with a slash behind it
abbrev pub closed_names : List (List ℕ) → List ℕ
closed_names path = flat_map (λ name. name ++ 47 ∷ []) path

-- the text that is kept of a path: `/` for the root, `/a/b/` for two names
abbrev pub kept_text : List (List ℕ) → List ℕ
kept_text path = 47 ∷ closed_names path

-- the names between the slashes of a kept text
abbrev pub names : List ℕ → List (List ℕ)
names text = all_but_last (split 47 (drop 1 text))

pub record IsText (text : List ℕ) : Type 0 where
  pub whole : kept_text (names text) ≡ text
  pub each : IsTrue (list_all is_name (names text))
