-- Lemmas on steps over the files, one behind another.
use Rattle.std.proofs.Common.{◌≡◌, ◌≤◌, ℕ, zero, suc, ◌+◌, List, le_refl, refl, ap, ◌∙◌, arith}
use Rattle.std.specs.Prelude.{Option, Some, None, Result, Ok, Err, Vec}
use Rattle.std.specs.declared.alloc.Global.{Global}
use Rattle.gufi_io.specs.Calls.{one_more, many_more}
use Rattle.gufi_io.specs.Files.{Files}
use Rattle.gufi_io.specs.Kept.{Keeps}
use Rattle.gufi_io.specs.declared.shelf.Shelf.{Ghosts as ShelfOf}
use Rattle.gufi_base.specs.Basics.{◌>>=◌}
use Rattle.gufi_users.specs.Entries.{PasswdEntry, GroupEntry, UserTables}
use Rattle.gufi_top.specs.Reasons.{Reason, optional_file, passwd_within, group_within, passwd_in, group_in, tables_with, tables_beside, tables_in}
use Rattle.gufi_top.specs.Calls.{Gives, GivesOver, HaltHasCause, IsOfBytes, Opens}
use Rattle.gufi_top.specs.Views.{bytes_view}
use Rattle.gufi_top.specs.declared.halt.Halt.{Halt}
use Rattle.gufi_top.specs.declared.halt.Halt.TheVariants as halts

-- a step that gives nothing, and the one behind it
pub fails_on : {A B : Type 0} (e : Halt) (step : Result A Reason) (next : A → Result B Reason) → Gives {A = A} (λ x. x) (Err e) step → Gives {A = B} (λ x. x) (Err e) (step >>= next)
fails_on (halts.Refused status note) step next is = rw is refl
fails_on halts.ReadFault step next is = tt
fails_on halts.Memory step next is = tt

-- what a call gives by one view where it fails is what it gives by another
seen_as : {A B : Type 0} (view : A → B) (e : Halt) (step : Result B Reason) → Gives view (Err e) step → Gives {A = B} (λ x. x) (Err e) step
seen_as view (halts.Refused status note) step is = is
seen_as view halts.ReadFault step is = tt
seen_as view halts.Memory step is = tt

failed_as : {B C : Type 0} (seen : B → C) (e : Halt) (step : Result C Reason) → Gives {A = C} (λ x. x) (Err e) step → Gives seen (Err e) step
failed_as seen (halts.Refused status note) step is = is
failed_as seen halts.ReadFault step is = tt
failed_as seen halts.Memory step is = tt

-- ---- a step over the files, and then one of what it gave, which may look at the files again

pub over_ok : {A B C D : Type 0} (told : Option Files) (view : A → B) (seen : C → D) (x : A) (r : Result C Halt) (first : Files → Result B Reason) (next : B → Files → Result D Reason)
    → GivesOver told view (Ok x) first → GivesOver told seen r (next (view x)) → GivesOver told seen r (λ files. first files >>= λ y. next y files)
over_ok None view seen x r first next read given = tt
over_ok (Some files) view seen x r first next read given = rw read given

pub over_err : {A B C D : Type 0} (told : Option Files) (view : A → B) (seen : C → D) (e : Halt) (first : Files → Result B Reason) (next : B → Files → Result D Reason)
    → GivesOver told view (Err e) first → GivesOver told seen (Err e) (λ files. first files >>= λ y. next y files)
over_err None view seen e first next read = tt
over_err (Some files) view seen e first next read =
    failed_as seen e _ (fails_on e (first files) (λ y. next y files) (seen_as view e (first files) read))

-- what bytes give is given over any files
pub given_over : {A B : Type 0} (told : Option Files) (view : A → B) (r : Result A Halt) (step : Result B Reason) → Gives view r step → GivesOver told view r (λ files. step)
given_over None view r step given = tt
given_over (Some files) view r step given = given

-- ---- causes

module _ {F : Type 0} (shelf : ShelfOf F) where
  pub cause_later : (before mid after : F) (e : Halt) → Keeps shelf before mid → HaltHasCause shelf mid after e → HaltHasCause shelf before after e
  cause_later before mid after (halts.Refused status note) kept (good, absent) = (good, λ is. let h = absent is in let more = kept.absents in omega arith)
  cause_later before mid after halts.ReadFault kept h = let more = kept.faults in omega arith
  cause_later before mid after halts.Memory kept h = tt

  pub cause_of_bytes : (old new : F) (e : Halt) → IsOfBytes e → HaltHasCause shelf old new e
  cause_of_bytes old new (halts.Refused status note) (good, other) = (good, λ is. absurd (other is))
  cause_of_bytes old new halts.ReadFault h = absurd h
  cause_of_bytes old new halts.Memory h = tt

-- ---- how many files were to be opened

pub more_on : (at first second both : ℕ) → both ≡ first + second → many_more (many_more at first) second ≡ many_more at both
unfolding many_more
more_on at zero second both is = let same : both ≡ second = omega arith in rw same refl
more_on at (suc first) second both is = let same : both ≡ suc (first + second) = omega arith in rw same (more_on (one_more at) first second (first + second) refl)

module _ {F : Type 0} (shelf : ShelfOf F) where
  opens_exactly : {A : Type 0} (r : Result A Halt) (count : ℕ) (old new : F) → shelf.opens new ≡ many_more (shelf.opens old) count → Opens shelf r count old new
  opens_exactly (Ok x) count old new is = is
  opens_exactly (Err e) count old new is = (count, le_refl count, is)

  pub opens_both : {A : Type 0} (r : Result A Halt) (first second : ℕ) (old mid new : F)
      → shelf.opens mid ≡ many_more (shelf.opens old) first → shelf.opens new ≡ many_more (shelf.opens mid) second → Opens shelf r (first + second) old new
  opens_both r first second old mid new one two =
      opens_exactly r (first + second) old new (two ∙ ap (λ (at : ℕ). many_more at second) one ∙ more_on (shelf.opens old) first second (first + second) refl)

  pub opens_first : (first second : ℕ) (old new : F) → shelf.opens new ≡ many_more (shelf.opens old) first → (opened : ℕ) × (opened ≤ first + second) × (shelf.opens new ≡ many_more (shelf.opens old) opened)
  opens_first first second old new one = (first, omega arith, one)

  -- and then a script
  pub opens_script : {A : Type 0} (r : Result A Halt) (first second : ℕ) (old mid new : F)
      → shelf.opens mid ≡ many_more (shelf.opens old) (first + second) → shelf.opens new ≡ one_more (shelf.opens mid) → Opens shelf r (first + (second + 1)) old new
  unfolding many_more
  opens_script r first second old mid new both last =
      opens_exactly r (first + (second + 1)) old new (last ∙ ap one_more both ∙ more_on (shelf.opens old) (first + second) 1 (first + (second + 1)) (omega arith))

  pub opens_users : (first second : ℕ) (old new : F) → (opened : ℕ) × (opened ≤ first + second) × (shelf.opens new ≡ many_more (shelf.opens old) opened)
      → (opened : ℕ) × (opened ≤ first + (second + 1)) × (shelf.opens new ≡ many_more (shelf.opens old) opened)
  opens_users first second old new is = (is.0, (let few = is.1 in omega arith), is.2)

-- ---- the files of users

pub passwd_ok : {T : Type 0} (told : Option Files) (seen : T → List PasswdEntry) (name : Option (List ℕ)) (bytes : Vec ℕ Global) (r : Result T Halt)
    → GivesOver told bytes_view (Ok bytes) (optional_file name) → Gives seen r (passwd_within name bytes.items) → GivesOver told seen r (passwd_in name)
unfolding passwd_in
passwd_ok told seen name bytes r read given = over_ok told bytes_view seen bytes r (optional_file name) (λ b files. passwd_within name b) read (given_over told seen r _ given)

pub passwd_err : {T : Type 0} (told : Option Files) (seen : T → List PasswdEntry) (name : Option (List ℕ)) (e : Halt)
    → GivesOver told bytes_view (Err e) (optional_file name) → GivesOver told seen (Err e) (passwd_in name)
unfolding passwd_in
passwd_err told seen name e read = over_err told bytes_view seen e (optional_file name) (λ b files. passwd_within name b) read

pub group_ok : {T : Type 0} (told : Option Files) (seen : T → List GroupEntry) (name : Option (List ℕ)) (bytes : Vec ℕ Global) (r : Result T Halt)
    → GivesOver told bytes_view (Ok bytes) (optional_file name) → Gives seen r (group_within name bytes.items) → GivesOver told seen r (group_in name)
unfolding group_in
group_ok told seen name bytes r read given = over_ok told bytes_view seen bytes r (optional_file name) (λ b files. group_within name b) read (given_over told seen r _ given)

pub group_err : {T : Type 0} (told : Option Files) (seen : T → List GroupEntry) (name : Option (List ℕ)) (e : Halt)
    → GivesOver told bytes_view (Err e) (optional_file name) → GivesOver told seen (Err e) (group_in name)
unfolding group_in
group_err told seen name e read = over_err told bytes_view seen e (optional_file name) (λ b files. group_within name b) read

pub tables_beside_ok : {T : Type 0} (told : Option Files) (seen : T → UserTables) (users : List PasswdEntry) (group : Option (List ℕ)) (groups : List GroupEntry) (r : Result T Halt)
    → GivesOver {A = List GroupEntry} told (λ g. g) (Ok groups) (group_in group) → Gives seen r (tables_with users groups) → GivesOver told seen r (tables_beside users group)
unfolding tables_beside
tables_beside_ok told seen users group groups r read given = over_ok told (λ g. g) seen groups r (group_in group) (λ g files. tables_with users g) read (given_over told seen r _ given)

pub tables_beside_err : {T : Type 0} (told : Option Files) (seen : T → UserTables) (users : List PasswdEntry) (group : Option (List ℕ)) (e : Halt)
    → GivesOver {A = List GroupEntry} told (λ g. g) (Err e) (group_in group) → GivesOver told seen (Err e) (tables_beside users group)
unfolding tables_beside
tables_beside_err told seen users group e read = over_err told (λ g. g) seen e (group_in group) (λ g files. tables_with users g) read

pub tables_ok : {T : Type 0} (told : Option Files) (seen : T → UserTables) (passwd group : Option (List ℕ)) (users : List PasswdEntry) (r : Result T Halt)
    → GivesOver {A = List PasswdEntry} told (λ u. u) (Ok users) (passwd_in passwd) → GivesOver told seen r (tables_beside users group) → GivesOver told seen r (tables_in passwd group)
unfolding tables_in
tables_ok told seen passwd group users r read given = over_ok told (λ u. u) seen users r (passwd_in passwd) (λ u files. tables_beside u group files) read given

pub tables_err : {T : Type 0} (told : Option Files) (seen : T → UserTables) (passwd group : Option (List ℕ)) (e : Halt)
    → GivesOver {A = List PasswdEntry} told (λ u. u) (Err e) (passwd_in passwd) → GivesOver told seen (Err e) (tables_in passwd group)
unfolding tables_in
tables_err told seen passwd group e read = over_err told (λ u. u) seen e (passwd_in passwd) (λ u files. tables_beside u group files) read

pub ruleset tables = (passwd_ok, passwd_err, group_ok, group_err, tables_beside_ok, tables_beside_err, tables_ok, tables_err)
