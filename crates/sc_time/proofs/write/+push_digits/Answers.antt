use Rattle.std.proofs.Common.{refl}
use Rattle.sc_time.proofs.Digits.{digits_pushed}
use Rattle.sc_time.proofs.write.+push_digits.Goals as goal

pub returns : goal.returns
returns t c = digits_pushed c.args.bytes.now.items c.push_digits.new.bytes.items c.push.new.self.items c.args.width c.args.number _ c.if-width-eq0.false c.in_ok-push_digits.ensures refl c.in_ok-push.ensures.items
