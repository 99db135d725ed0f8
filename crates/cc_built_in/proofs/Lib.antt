mod Finding
