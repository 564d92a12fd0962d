-- What the data that the code has read stands for.
use Rattle.ante_execution.specs.NativeData as meant
use Rattle.ante_native.specs.declared.newaccount.NewAccountData.{NewAccountData}
use Rattle.ante_native.specs.declared.setcode.SetCodeData.{SetCodeData}
use Rattle.ante_native.specs.declared.setabi.SetAbiData.{SetAbiData}
use Rattle.ante_native.specs.declared.updateauth.UpdateAuthData.{UpdateAuthData}
use Rattle.ante_native.specs.declared.deleteauth.DeleteAuthData.{DeleteAuthData}
use Rattle.ante_native.specs.declared.linkauth.LinkAuthData.{LinkAuthData}
use Rattle.ante_native.specs.declared.unlinkauth.UnlinkAuthData.{UnlinkAuthData}

abbrev pub newaccount_of : NewAccountData → meant.NewAccount
newaccount_of d = record { creator = d.creator; name = d.name; owner = d.owner; active = d.active }

abbrev pub setcode_of : SetCodeData → meant.SetCode
setcode_of d = record { account = d.account; vmtype = d.vmtype; vmversion = d.vmversion; code = d.code }

abbrev pub setabi_of : SetAbiData → meant.SetAbi
setabi_of d = record { account = d.account; abi = d.abi }

abbrev pub updateauth_of : UpdateAuthData → meant.UpdateAuth
updateauth_of d = record { account = d.account; permission = d.permission; parent = d.parent; authority = d.authority }

abbrev pub deleteauth_of : DeleteAuthData → meant.DeleteAuth
deleteauth_of d = record { account = d.account; permission = d.permission }

abbrev pub linkauth_of : LinkAuthData → meant.LinkAuth
linkauth_of d = record { account = d.account; code = d.code; action = d.action; requirement = d.requirement }

abbrev pub unlinkauth_of : UnlinkAuthData → meant.UnlinkAuth
unlinkauth_of d = record { account = d.account; code = d.code; action = d.action }
