-- What a check in its store stands for.
-- Assumes nothing.
use Rattle.feeding.specs.Feeding.{Check}
use Rattle.store.specs.Stores.{check_in}
use Rattle.streamed.specs.declared.check.StoredCheck.{StoredCheck}
use Rattle.streamed.specs.declared.blocks.WholeGsi.{WholeGsi}

-- the check of its numbers and its store
abbrev pub check_of_it : StoredCheck → Check
check_of_it c = check_in c.state c.store.now

abbrev pub whole_check : WholeGsi → Check
whole_check c = check_in c.state c.store.now
