pub mod AclTexts
