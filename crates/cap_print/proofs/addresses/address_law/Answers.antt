use Rattle.cap_print.proofs.AddressTexts.{address-law}
use Rattle.cap_print.proofs.addresses.address_law.Goals as goal

pub returns : goal.returns
returns c = address-law
