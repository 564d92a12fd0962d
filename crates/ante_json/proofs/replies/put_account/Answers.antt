use Rattle.std.proofs.Common.{map, to_z-of_z}
use Rattle.serde_json.specs.Data.{boolean}
use Rattle.ante_json_text.specs.Values.{number_value, signed_value, hex_value, name_value, list_value}
use Rattle.ante_views.specs.Views.{permission_value}
use Rattle.ante_json.specs.Replies.{account_value}
use Rattle.ante_json.proofs.Members.{account_text}
use Rattle.ante_json.proofs.replies.put_account.Goals as goal

pub returns : goal.returns
unfolding account_value
returns c =
    let permissions = rw c.as_slice.ensures at c.in_ok-put_array.ensures in
    let quota = rw (to_z-of_z c.ranges.ram_quota) at c.in_ok-put_member-4.ensures in
    account_text (name_value c.args.name) (hex_value c.args.code_hash.now) (list_value (map permission_value c.args.permissions.now))
    (boolean c.args.privileged) (signed_value c.args.ram_quota) (number_value c.args.ram_usage)
    c.in_ok-begin_object.ensures c.in_ok-put_member.ensures c.in_ok-put_member-2.ensures c.in_ok-put_key.ensures permissions
    c.in_ok-put_member-3.ensures quota c.in_ok-put_member-5.ensures c.in_ok-end_object.ensures
