use Rattle.gufi_users.proofs.TableLemmas.{user_found}
use Rattle.gufi_users.proofs.passwd.Passwd.account_of.Goals as goal

pub returns : goal.returns
returns c = rw (← c.self.view_is, c.account_in.ensures) (user_found c.args.name.now c.self.inside.rows.entries)
