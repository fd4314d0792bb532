-- Equal keys are the same.
use Rattle.std.proofs.Common.{◌≡◌, ◌&&◌, ◌==◌, ap}
use Rattle.std.specs.Prelude.{bytes_eq}
use Rattle.std.specs.Bool.{Decides}
use Rattle.std.specs.Cmp.Lexicographic.{pointwise_decides, bytes_decides}
use Rattle.std.proofs.lemmas.Bool.Decides.{Decides-and, Decides-like, Decides-eqb}
use Rattle.gufi_base.specs.Paths.{path_eq}
use Rattle.gufi_access.specs.declared.class.Principal.{Principal}
use Rattle.gufi_cache.specs.declared.key.CacheKey.{CacheKey}
use Rattle.gufi_cache.specs.Keys.{same_key, same_principal}

pub same_principal-Decides : (a b : Principal) → Decides (same_principal a b) (a ≡ b)
same_principal-Decides a b =
    Decides-like (same_principal a b)
    (λ e i. record { uid = e.0 i; groups = e.1 i })
    (λ e. (ap (λ (p : Principal). p.uid) e, ap (λ (p : Principal). p.groups) e))
    (Decides-and (a.uid == b.uid) (bytes_eq a.groups b.groups) (Decides-eqb a.uid b.uid) (bytes_decides a.groups b.groups))

pub same_key-Decides : (a b : CacheKey) → Decides (same_key a b) (a ≡ b)
same_key-Decides a b =
    Decides-like (same_key a b)
    (λ e i. record { number = e.0 i; who = e.1.0 i; start = e.1.1.0 i; ask = e.1.1.1 i })
    (λ e. (ap (λ (k : CacheKey). k.number) e, (ap (λ (k : CacheKey). k.who) e, (ap (λ (k : CacheKey). k.start) e, ap (λ (k : CacheKey). k.ask) e))))
    (Decides-and (a.number == b.number) (same_principal a.who b.who && (path_eq a.start b.start && bytes_eq a.ask b.ask)) (Decides-eqb a.number b.number)
    (Decides-and (same_principal a.who b.who) (path_eq a.start b.start && bytes_eq a.ask b.ask) (same_principal-Decides a.who b.who)
    (Decides-and (path_eq a.start b.start) (bytes_eq a.ask b.ask) (pointwise_decides bytes_decides a.start b.start) (bytes_decides a.ask b.ask))))
