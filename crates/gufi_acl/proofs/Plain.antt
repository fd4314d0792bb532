-- The text of a list is plain.
use Rattle.std.proofs.Common.{[], ◌∷◌, map, refl, sym}
use Rattle.std.proofs.lemmas.Bool.{false≢true}
use Rattle.gufi_base.specs.Names.{is_path_byte}
use Rattle.gufi_access.specs.Acl.{entries}
use Rattle.gufi_acl.specs.AclTexts.{entry_text, acl_text, AclTextsArePlain}
use Rattle.gufi_acl.proofs.Joined.{all_join}
use Rattle.gufi_acl.proofs.Letters.{path_bytes, entries_pass}

pub acl_texts_are_plain : AclTextsArePlain
unfolding acl_text
acl_texts_are_plain [] = record { plain = refl; empty = refl; marked = λ some. absurd (false≢true (sym some)) }
acl_texts_are_plain (b ∷ acl) =
    let es = entries (b ∷ acl) in
    record {
      plain = all_join is_path_byte 44 refl (map entry_text es) (entries_pass is_path_byte path_bytes refl es);
      empty = refl;
      marked = λ some. refl;
    }
