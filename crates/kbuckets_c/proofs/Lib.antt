mod HostFunctions
