-- Which words ask for which page.
use Rattle.std.specs.Prelude.{ℕ, Bool, ◌||◌, List, [], ◌∷◌, find, Option, Some, None, if◌then◌else◌, bytes_eq, codes}
use Rattle.gufi_pages.specs.declared.pages.CommandPage.{CommandPage}
use Rattle.gufi_pages.specs.declared.pages.Pages.{Pages}

abbrev pub asks_help : List ℕ → Bool
asks_help word = bytes_eq word (codes "--help") || bytes_eq word (codes "-h")

unfoldable pub lone_page : Pages → List ℕ → Option (List ℕ)
lone_page pages word =
    if bytes_eq word (codes "--help") then Some pages.usage.now
    else if bytes_eq word (codes "-h") then Some pages.usage.now
    else if bytes_eq word (codes "help") then Some pages.usage.now
    else if bytes_eq word (codes "--version") then Some pages.version.now
    else if bytes_eq word (codes "--man") then Some pages.manual.now
    else if bytes_eq word (codes "--completions") then Some pages.completions.now
    else if bytes_eq word (codes "--completions=zsh") then Some pages.zsh_completions.now
    else if bytes_eq word (codes "--completions=fish") then Some pages.fish_completions.now
    else None

abbrev pub page_in : Option CommandPage → Option (List ℕ)
page_in None = None
page_in (Some command) = Some command.page.now

-- the page of the first command of that name
abbrev pub page_among : List CommandPage → List ℕ → Option (List ℕ)
page_among commands name = page_in (find (λ command. bytes_eq command.name.now name) commands)

-- the page that the words ask for; all other words are those of a command, or of none
unfoldable pub page_of : Pages → List (List ℕ) → Option (List ℕ)
page_of pages [] = None
page_of pages (word ∷ []) = lone_page pages word
page_of pages (name ∷ word ∷ []) = if asks_help word then page_among pages.commands.now name else None
page_of pages (name ∷ word ∷ other ∷ words) = None
