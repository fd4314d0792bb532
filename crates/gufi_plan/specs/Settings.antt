-- What a setup is for a plan.
use Rattle.gufi_plan.specs.declared.reading.Setup.{Setup}
use Rattle.gufi_plan.specs.Plan.{Setting}

abbrev pub setting_of : Setup → Setting
setting_of setup = record { tables = setup.users.now; now = setup.now; delim = setup.delim }
