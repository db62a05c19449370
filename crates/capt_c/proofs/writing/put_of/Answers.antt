use Rattle.std.proofs.Common.{refl, inl}
use Rattle.capt_c.proofs.writing.put_of.Goals as goal

pub returns-in-Some : goal.returns-in-Some
returns-in-Some c =
    rw c.in-Writer.is (inl (
      c.in-Some.meta,
      c.in-Some.ensures.some,
      (
        c.put.result,
        c.put.new.self,
        c.status_and_place.ensures.status,
        c.status_and_place.ensures.place,
        refl,
        c.put.ensures.puts,
        c.put.ensures.grows,
      ),
    ))
