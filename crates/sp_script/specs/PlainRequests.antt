-- Requests as the code keeps them.
use Rattle.sp_script.specs.declared.request.Request as kept
use Rattle.sp_script.specs.Requests.{Request}

-- what is asked for, and the name that is lent
abbrev pub plain_request : kept.Request → Request
plain_request request = (request.verb, request.name.now)
