-- Entries read one after the other.
use Rattle.std.proofs.Common.{◌≡◌, ℕ, ◌+◌, ◌-◌, ◌<◌, true, false, not, List, [], ◌∷◌, ◌++◌, length, length-append, Ok, Err, refl, sym, ap, subst, ◌∙◌, arith}
use Rattle.gufi_base.specs.Basics.{ascends}
use Rattle.gufi_base.specs.Kinds.{is_dir}
use Rattle.gufi_base.specs.Paths.{Components}
use Rattle.gufi_tree.specs.declared.tree.Entry.{Entry}
use Rattle.gufi_tree.specs.Tree.{entry_cmp}
use Rattle.gufi_image.specs.declared.width.Width.{Width}
use Rattle.gufi_image.specs.declared.fault.Flaw.{Flaw}
use Rattle.gufi_image.specs.declared.fault.Refused.{Refused}
use Rattle.gufi_image.specs.declared.fault.Refused.TheVariants as refusals
use Rattle.gufi_image.specs.Fields.{Refuses}
use Rattle.gufi_image.specs.Entries.{follows, entry_at, one_entry}
use Rattle.gufi_image.specs.Placed.{AreEntries}
use Rattle.gufi_image.specs.Pieces.{later, Stops, OnFlaw, entries_from}
use Rattle.gufi_image.specs.Repeated.{repeated}
use Rattle.gufi_image.proofs.Fronts.{push_up, all_push}
use Rattle.gufi_image.proofs.Repeats.{goes_on, stops}
use Rattle.gufi_image.proofs.Longer.{entry_goes}

pub entry_goes_on : (width : Width) (path : Components) (count : ℕ) (before seen pushed : List Entry) (bytes after more : List ℕ) (entry : Entry) → seen ≡ before → length before < count → entry_at width path seen bytes ≡ Ok (entry, after) → pushed ≡ before ++ entry ∷ []
    → entries_from width path count before (bytes ++ more) ≡ entries_from width path count pushed (after ++ more)
entry_goes_on width path count before seen pushed bytes after more entry same lt h push =
    let own : entry_at width path before bytes ≡ Ok (entry, after) = subst (λ (es : List Entry). entry_at width path es bytes ≡ Ok (entry, after)) same h in
    let longer : entry_at width path before (bytes ++ more) ≡ Ok (entry, after ++ more) = (entry_goes more width path before bytes).ok (entry, after) own in
    let one : one_entry width path before (bytes ++ more) ≡ Ok (before ++ entry ∷ [], after ++ more) = rw longer refl in
    let left : count - length pushed ≡ count - (length before + 1) = omega (arith, ap (λ (es : List Entry). length es) push, length-append before (entry ∷ [])) in
    sym (goes_on (one_entry width path) count (length before) before (before ++ entry ∷ []) (bytes ++ more) (after ++ more) _ lt one refl)
    ∙ ap (λ n. repeated (one_entry width path) n (before ++ entry ∷ []) (after ++ more)) (sym left)
    ∙ ap (λ (es : List Entry). repeated (one_entry width path) (count - length pushed) es (after ++ more)) (sym push)

pub entry_halts : (width : Width) (path : Components) (count : ℕ) (before seen : List Entry) (bytes more : List ℕ) (f : Flaw) → seen ≡ before → length before < count → entry_at width path seen bytes ≡ Err f → Stops f more (entries_from width path count before (bytes ++ more))
entry_halts width path count before seen bytes more f same lt h only =
    let own : entry_at width path before bytes ≡ Err f = subst (λ (es : List Entry). entry_at width path es bytes ≡ Err f) same h in
    let longer : entry_at width path before (bytes ++ more) ≡ Err (later (length more) f) = (entry_goes more width path before bytes).err f own only in
    let one : one_entry width path before (bytes ++ more) ≡ Err (later (length more) f) = rw longer refl in
    stops (one_entry width path) (refusals.Flaw (later (length more) f)) count (length before) before (bytes ++ more) _ lt one refl

pub entry_refused : (width : Width) (path : Components) (count : ℕ) (before seen : List Entry) (bytes : List ℕ) (e : Refused) → seen ≡ before → length before < count → Refuses e (entry_at width path seen bytes)
    → OnFlaw e (λ f. (more : List ℕ) → Stops f more (entries_from width path count before (bytes ++ more)))
entry_refused width path count before seen bytes refusals.Memory same lt h = tt
entry_refused width path count before seen bytes (refusals.Flaw f) same lt h = λ more. entry_halts width path count before seen bytes more f same lt h

-- one entry more
pub entries_push : (before : List Entry) (entry : Entry) → AreEntries before → follows before entry.name ≡ true → is_dir entry.rec.meta.kind ≡ false → AreEntries (before ++ entry ∷ [])
entries_push before entry h above kind = record {
  order = up before h.order above;
  kinds = all_push (λ (e : Entry). not (is_dir e.rec.meta.kind)) before entry h.kinds (ap not kind);
} where
  up : (es : List Entry) → ascends entry_cmp es ≡ true → follows es entry.name ≡ true → ascends entry_cmp (es ++ entry ∷ []) ≡ true
  up [] o a = refl
  up (e ∷ es) o a = push_up entry_cmp e es entry o a

pub one_more : (before seen pushed : List Entry) (entry : Entry) → seen ≡ before → pushed ≡ before ++ entry ∷ [] → AreEntries before → follows seen entry.name ≡ true → is_dir entry.rec.meta.kind ≡ false → AreEntries pushed
one_more before seen pushed entry same push h above kind =
    subst AreEntries (sym push) (entries_push before entry h (subst (λ (es : List Entry). follows es entry.name ≡ true) same above) kind)
